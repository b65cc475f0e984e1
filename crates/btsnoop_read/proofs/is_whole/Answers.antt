use mathlib.Core.Path.{◌≡◌, sym, ap₂, ◌∙◌}
use native.Mathlib.Omega.{arith}
use lib.Dec.{leb}
use Rattle.btsnoop_read.specs.Head.{whole_short, whole_cut, whole_by}
use borrow.Author.Rules.{rules}
use Rattle.big_endian.proofs.u32_at.Reads as u32-at-reads
use Rattle.btsnoop_read.proofs.is_whole.Goals as goal

pub returns-then-n-lt24 : goal.returns-then-n-lt24
returns-then-n-lt24 c = sym (whole_short c.args.s.now c.args.at (omega arith))

pub returns-then-n-at : goal.returns-then-n-at
returns-then-n-at c = sym (whole_short c.args.s.now c.args.at (omega arith))

pub returns-then-n-at-2 : goal.returns-then-n-at-2
returns-then-n-at-2 c = sym (whole_cut c.args.s.now c.args.at (omega (arith, c.u32_at-included.ensures)))

pub returns : goal.returns
returns c =
    let a = c.args in
    ap₂ leb c.u32_at-included.ensures c.u32_at.ensures
    ∙ sym (whole_by a.s.now a.at (omega (arith, c.u32_at-included.ensures)))
