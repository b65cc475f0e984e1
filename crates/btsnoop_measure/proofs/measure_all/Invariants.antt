use Rattle.std.proofs.Common.{◌+◌, ◌-◌, ◌≤◌, length}
use Rattle.btsnoop_read.specs.Read.{records_in}
use Rattle.btsnoop_measure.specs.Laws.{Counts}
use Rattle.btsnoop_measure.proofs.measure_all.Given as goal

abbrev pub invariant-loop-head : goal.invariant-loop-head
invariant-loop-head l = (l.at ≤ length l.s + 16) × (l.m.records ≤ l.at) × (l.m.bytes ≤ l.at) × Counts l.m l.s l.at (records_in l.s)

abbrev pub decreases-loop-head : goal.decreases-loop-head
decreases-loop-head l = length l.s - l.at
