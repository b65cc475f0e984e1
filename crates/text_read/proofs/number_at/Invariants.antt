use Prim.Native.Nat.{◌^◌, ◌<◌}
use mathlib.Core.Path.{◌≡◌}
use lib.ListN.{drop}
use Rattle.text_read.specs.Read.{number_at, number_from}
use Rattle.text_read.proofs.number_at.Given as goal

abbrev pub invariant-loop-i : goal.invariant-loop-i
invariant-loop-i l = (l.value < 2 ^ 64) × (number_at l.s l.at ≡ number_from l.at (drop l.i l.s) l.i l.value)
