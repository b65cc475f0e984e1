-- So far each pair fits, and `ahead` is where the next record may start.
use Prim.Native.Nat.{◌≤◌}
use mathlib.Core.Path.{◌≡◌}
use mathlib.Core.Bool.{true}
use Rattle.peer_records.specs.Below.{all_below}
use Rattle.peer_records.specs.Format.{pair_fits, earliest}
use Rattle.peer_records.proofs.pairs_fit.Given as goal

abbrev pub invariant-loop-i : goal.invariant-loop-i
invariant-loop-i l = (l.i ≤ l.n) × (l.ahead ≡ earliest l.s l.i) × (all_below (pair_fits l.s) l.i ≡ true)
