use Rattle.std.proofs.Common.{◌-◌, length}
use Rattle.host_recording.specs.Laws.{AtMost, GoesOn}
use Rattle.host_recording.proofs.run_records.Given as goal

abbrev pub invariant-loop-head : goal.invariant-loop-head
invariant-loop-head l = AtMost l.at l.p.counts × GoesOn l.fn.t l.datalink l.s l.at l.p

abbrev pub decreases-loop-head : goal.decreases-loop-head
decreases-loop-head l = length l.s - l.at
