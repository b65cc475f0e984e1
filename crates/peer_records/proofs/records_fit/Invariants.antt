-- So far each record fits.
use Prim.Native.Nat.{ℕ}
use mathlib.Core.Path.{◌≡◌}
use mathlib.Core.Bool.{true}
use Rattle.peer_records.specs.Below.{all_below}
use Rattle.peer_records.specs.Format.{record_at, record_fits}
use Rattle.peer_records.proofs.records_fit.Given as goal

abbrev pub invariant-loop-i : goal.invariant-loop-i
invariant-loop-i l = (all_below (λ (k : ℕ). record_fits (record_at l.s k)) l.i ≡ true)
