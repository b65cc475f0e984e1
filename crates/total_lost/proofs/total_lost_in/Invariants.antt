use Rattle.std.proofs.Common.{◌≡◌}
use Rattle.total_lost.specs.Laws.{lost_below}
use Rattle.total_lost.proofs.total_lost_in.Given as goal

abbrev pub invariant-loop-i : goal.invariant-loop-i
invariant-loop-i l = l.total ≡ lost_below l.i l.t.connections
