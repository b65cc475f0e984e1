use mathlib.Core.Path.{◌≡◌}
use lib.ListN.{drop}
use Rattle.completed_packets.specs.Format.{handles_fit}
use Rattle.completed_packets_write.proofs.of_form.Given as goal

abbrev pub invariant-loop-i : goal.invariant-loop-i
invariant-loop-i g l = let ps = g.P.PairList.pairs l.pairs in handles_fit ps ≡ handles_fit (drop l.i ps)
