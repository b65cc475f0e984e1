use Prim.Native.Nat.{◌≤◌}
use mathlib.Core.Path.{◌≡◌}
use lib.ListN.{drop}
use Rattle.completed_packets.specs.Format.{handles_fit, masked_pairs}
use Rattle.completed_packets.specs.Read.{raw_pairs}
use Rattle.completed_packets.proofs.handles_fit.Given as goal

abbrev pub invariant-loop-i : goal.invariant-loop-i
invariant-loop-i l = (l.i ≤ l.n) × (handles_fit (masked_pairs (raw_pairs l.s l.n 3)) ≡ handles_fit (drop l.i (masked_pairs (raw_pairs l.s l.n 3))))
