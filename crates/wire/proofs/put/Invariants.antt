use Prim.Native.Nat.{◌≤◌}
use mathlib.Core.Path.{◌≡◌}
use mathlib.Core.List.{◌++◌}
use lib.ListN.{length, take, drop}
use Rattle.wire.proofs.put.Given as goal

abbrev pub invariant-loop-i : goal.invariant-loop-i
invariant-loop-i l = (l.i ≤ length l.message) × (length l.out ≡ length l.initial.out) × (l.out ≡ take l.i l.message ++ drop l.i l.initial.out)
