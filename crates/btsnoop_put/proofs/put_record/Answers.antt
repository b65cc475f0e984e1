use mathlib.Core.Path.{sym, ◌∙◌}
use native.Mathlib.Omega.{arith}
use Rattle.btsnoop_read.specs.Format.{record_of}
use Rattle.btsnoop_put.specs.Put.{put_nothing, put_whole, put_fields}
use Rattle.btsnoop_put.proofs.put_record.Goals as goal

pub returns-then-n-lt24 : goal.returns-then-n-lt24
returns-then-n-lt24 c =
    let a = c.args in
    sym (put_nothing a.out.now a.at (record_of a.original a.flags a.drops a.timestamp a.part.now) (omega arith))

pub returns-then-n-at : goal.returns-then-n-at
returns-then-n-at c =
    let a = c.args in
    sym (put_nothing a.out.now a.at (record_of a.original a.flags a.drops a.timestamp a.part.now) (omega arith))

pub returns-then-n-at-2 : goal.returns-then-n-at-2
returns-then-n-at-2 c =
    let a = c.args in
    sym (put_nothing a.out.now a.at (record_of a.original a.flags a.drops a.timestamp a.part.now) (omega arith))

pub returns : goal.returns
returns c =
    let a = c.args in
    let r = record_of a.original a.flags a.drops a.timestamp a.part.now in
    put_fields a.out.now a.at r _ _ _ _ _ _ c.put_number.ensures c.put_number-2.ensures c.put_number-3.ensures c.put_number-4.ensures c.put_number-5.ensures c.put_bytes.ensures
    ∙ sym (put_whole a.out.now a.at r (omega (arith, c.if-n-lt24.false, c.if-n-at.false, c.if-n-at-2.false)))
