-- The proofs of `RecordedRuns`, `RecordedRefusals`, `RecordedReached` and `RecordedNumbers`: by cases, and by what `poll_accept` does.
-- Assumes nothing.
use Rattle.std.specs.Prelude.{ℕ, ◌≡◌, refl, ◌≢◌, true, List, [], ◌∷◌, eqb}
use Rattle.slot.specs.declared.Address.{Address}
use Rattle.slot.specs.declared.LeConnRole.{LeConnRole}
use Rattle.slot.specs.declared.ConnectionManager.{ConnectionManager}
use Rattle.slot.specs.declared.Located.{Located}
use Rattle.slot.specs.declared.Located.TheVariants.{Setup, Absent, At}
use Rattle.slot.specs.declared.Woken.TheVariants.{Nobody}
use Rattle.model.specs.Answer.{Refusal, Local, Outcome, refusal, unmoved}
use Rattle.model.specs.Find.{slot_at, well_formed, locate}
use Rattle.model.specs.Calls.{accepts, accepted_at, placed, settle, poll_accept_call, poll_accept}
use Rattle.model.proofs.Laws.{either, put_same}
use Rattle.model.specs.History.{Reached}
use Rattle.number_theorems.specs.Numbers.{is_in}
use Rattle.model_theorems.proofs.Reach.{reached_call}
use Rattle.peer_records.specs.Format.{is_file, records_fit}
use Rattle.peer_records.specs.Force.{peers_in}
use Rattle.accept_recorded.specs.Recorded.{poll_peers, poll_recorded}
use Rattle.recorded_theorems.specs.Statement.{RecordedRuns, RecordedRefusals, RecordedReached, RecordedNumbers, recorded_numbers}

pub recorded_runs : RecordedRuns
unfolding RecordedRuns
recorded_runs r s t w f g = (λ n. rw (w, f, g) (some (peers_in s r) n), λ e. rw (w, f, g, e))
  where
    some : (ps : List Address) → ps ≢ [] → poll_peers r ps t ≡ poll_accept r ps t
    some [] n = absurd (n refl)
    some (p ∷ ps) n = refl

-- ---- what holds of an answer that leaves the table, and of the old poll, holds of the new one

module _ (r : LeConnRole) (s : List ℕ) (t : ConnectionManager) (P : Outcome → Type 0) (setup : P (unmoved (refusal Refusal.Setup) t))
    (pairs : P (unmoved (refusal Refusal.Pairs) t)) (values : P (unmoved (refusal Refusal.Values) t))
    (pending : P (unmoved (refusal Refusal.Pending) t)) where
  with_peers : ((ps : List Address) → P (poll_accept r ps t)) → (ps : List Address) → P (poll_peers r ps t)
  with_peers polls [] = pending
  with_peers polls (p ∷ ps) = polls (p ∷ ps)

  of_recorded : ((ps : List Address) → P (poll_accept r ps t)) → P (poll_recorded r s t)
  of_recorded polls =
      either P (well_formed t) _ _
      (either P (is_file s) _ _ (either P (records_fit s) _ _ (with_peers polls (peers_in s r)) values) pairs)
      setup

  -- of the old poll, by what its search found
  by_search : ((i : ℕ) → P (placed t i (accepted_at i (slot_at t i)))) → P (poll_recorded r s t)
  by_search found = of_recorded (λ ps. found_in (locate (accepts r ps) t))
    where
      found_in : (f : Located) → P (settle (refusal Refusal.Pending) (λ i. accepted_at i (slot_at t i)) t f)
      found_in Setup = setup
      found_in Absent = pending
      found_in (At i) = found i

pub recorded_numbers_lem : RecordedNumbers
unfolding RecordedNumbers
recorded_numbers_lem r s t =
    by_search r s t (λ (o : Outcome). is_in o.reply.number recorded_numbers ≡ true) refl refl refl refl
    (λ i.
    either (λ (l : Local). is_in l.reply.number recorded_numbers ≡ true) (eqb (slot_at t i).refcount 0) _ _ refl refl)

pub recorded_reached : RecordedReached
unfolding RecordedReached
recorded_reached r s t h =
    of_recorded r s t (λ (o : Outcome). Reached o.table) h h h h (λ ps. reached_call (poll_accept_call r ps) t h)

pub recorded_refusals : RecordedRefusals
unfolding RecordedRefusals
recorded_refusals r s t = (
  λ w. rw w,
  λ w f. rw (w, f),
  λ w f g. rw (w, f, g),
  by_search r s t (λ (o : Outcome). o.reply.number ≢ 0 → o.table ≡ t) (λ n. refl) (λ n. refl) (λ n. refl) (λ n. refl)
      (λ i.
      either (λ (l : Local). l.reply.number ≢ 0 → (placed t i l).table ≡ t) (eqb (slot_at t i).refcount 0) _ _
      (λ n. absurd (n refl)) (λ n. put_same t i)),
  by_search r s t (λ (o : Outcome). o.woken ≡ Nobody) refl refl refl refl
      (λ i. either (λ (l : Local). l.woken ≡ Nobody) (eqb (slot_at t i).refcount 0) _ _ refl refl),
)
