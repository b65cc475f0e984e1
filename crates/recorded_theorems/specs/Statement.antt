-- What is promised of the second `poll_accept`, for every role, every file and every table, well formed or not. `RecordedRuns`,
-- `RecordedRefusals`, `RecordedReached` and `RecordedNumbers` are proved in Runs.antt, `RecordedAccepts` in Accepts.antt; Cases.antt has
-- a case of each. Assumes nothing.
use Rattle.std.specs.Prelude.{ℕ, ◌<◌, ◌≡◌, ◌≢◌, true, false, List, [], ◌∷◌}
use Rattle.state.specs.State.{is_connecting}
use Rattle.slot.specs.declared.LeConnRole.{LeConnRole}
use Rattle.slot.specs.declared.ConnectionManager.{ConnectionManager}
use Rattle.slot.specs.declared.Woken.TheVariants.{Nobody}
use Rattle.model.specs.Answer.{Refusal, refusal, unmoved, ok}
use Rattle.model.specs.Find.{slot_at, well_formed}
use Rattle.model.specs.Calls.{same_role, poll_accept_call, run}
use Rattle.model.specs.History.{Reached}
use Rattle.number_theorems.specs.Numbers.{is_in}
use Rattle.peer_records.specs.Format.{count_in, is_file, records_fit, record_at, peer_in}
use Rattle.peer_records.specs.Force.{in_force_for, peers_in}
use Rattle.accept_recorded.specs.Recorded.{poll_recorded}

-- where nothing is refused before the search: a call of histories, with the peers in force for the role; with none of them 5
unfoldable pub RecordedRuns : Type 0
RecordedRuns =
    (r : LeConnRole) (s : List ℕ) (t : ConnectionManager) → well_formed t ≡ true → is_file s ≡ true → records_fit s ≡ true
    → (peers_in s r ≢ [] → poll_recorded r s t ≡ run (poll_accept_call r (peers_in s r)) t)
    × (peers_in s r ≡ [] → poll_recorded r s t ≡ unmoved (refusal Refusal.Pending) t)

-- 8, 22 and 23, in this order; whatever is refused leaves the table, and nobody is woken
unfoldable pub RecordedRefusals : Type 0
RecordedRefusals =
    (r : LeConnRole) (s : List ℕ) (t : ConnectionManager)
    → (well_formed t ≡ false → poll_recorded r s t ≡ unmoved (refusal Refusal.Setup) t)
    × (well_formed t ≡ true → is_file s ≡ false → poll_recorded r s t ≡ unmoved (refusal Refusal.Pairs) t)
    × (well_formed t ≡ true → is_file s ≡ true → records_fit s ≡ false → poll_recorded r s t ≡ unmoved (refusal Refusal.Values) t)
    × ((poll_recorded r s t).reply.number ≢ 0 → (poll_recorded r s t).table ≡ t)
    × ((poll_recorded r s t).woken ≡ Nobody)

-- its tables are reached by the calls of histories
unfoldable pub RecordedReached : Type 0
RecordedReached = (r : LeConnRole) (s : List ℕ) (t : ConnectionManager) → Reached t → Reached (poll_recorded r s t).table

-- the numbers that it answers
abbrev pub recorded_numbers : List ℕ
recorded_numbers = 0 ∷ 5 ∷ 6 ∷ 8 ∷ 22 ∷ 23 ∷ []

unfoldable pub RecordedNumbers : Type 0
RecordedNumbers =
    (r : LeConnRole) (s : List ℕ) (t : ConnectionManager) → is_in (poll_recorded r s t).reply.number recorded_numbers ≡ true

-- the slot that it accepts was Connecting and of the role, and a record in force for the role is of its peer
pub record Recorded (r : LeConnRole) (s : List ℕ) (t : ConnectionManager) (i : ℕ) : Type 0 where
  pub slot : i < t.count
  pub connecting : is_connecting (slot_at t i).state ≡ true
  pub role : same_role r (slot_at t i).role ≡ true
  pub which : ℕ
  pub below : which < count_in s
  pub in_force_lem : in_force_for s r which ≡ true
  pub peer : (peer_in (record_at s which)) ≡ (slot_at t i).peer_identity

unfoldable pub RecordedAccepts : Type 0
RecordedAccepts =
    (r : LeConnRole) (s : List ℕ) (t : ConnectionManager) (i : ℕ) → (poll_recorded r s t).reply ≡ ok (i ∷ []) → Recorded r s t i
