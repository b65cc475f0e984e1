use Rattle.std.proofs.Common.{◌≡◌, ◌+◌, ◌-◌, length}
use lib.Seq.{sets}
use Rattle.to_columns.specs.Put.{cells_from}
use Rattle.to_columns.proofs.put_column.Given as goal

abbrev pub invariant-loop-head : goal.invariant-loop-head
invariant-loop-head l =
    (length l.out ≡ length l.initial.out)
    × (l.to + length (cells_from l.cell l.s l.before l.i) ≡ l.at + length (cells_from l.cell l.s 0 16))
    × (sets l.initial.out l.at (cells_from l.cell l.s 0 16) ≡ sets l.out l.to (cells_from l.cell l.s l.before l.i))

abbrev pub decreases-loop-head : goal.decreases-loop-head
decreases-loop-head l = length l.s - l.i
