use mathlib.Core.Path.{sym, ◌∙◌}
use native.Mathlib.Omega.{arith}
use Rattle.peer_records.specs.Format.{file_tiny, file_short, file_by}
use Rattle.peer_records.proofs.is_file.Goals as goal

pub returns-then-s-lt2 : goal.returns-then-s-lt2
returns-then-s-lt2 c = sym (file_tiny c.args.s.now c.if-s-lt2.true)

pub returns-then-s-end : goal.returns-then-s-end
returns-then-s-end c =
    sym (file_short c.args.s.now c.u16_at-n.ensures (omega arith))

pub returns : goal.returns
returns c =
    c.pairs_fit.ensures
    ∙ file_by c.args.s.now c.u16_at-n.ensures (omega arith)
