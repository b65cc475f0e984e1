-- The ticket of a slot in any state, which is that of the model wherever the search finds the slot. Assumes nothing.
use Rattle.std.specs.Prelude.{ℕ, ◌≡◌, refl, true, [], ◌∷◌}
use Rattle.std.proofs.Common.{ap}
use Rattle.state.specs.declared.ConnectionState.{ConnectionState}
use Rattle.state.specs.declared.ConnectionState.TheVariants as state
use Rattle.slot.specs.declared.ConnectionStorage.{ConnectionStorage}
use Rattle.slot.specs.declared.ConnectionManager.{ConnectionManager}
use Rattle.slot.specs.declared.Located.{Located}
use Rattle.slot.specs.declared.Located.TheVariants.{Setup, Absent, At}
use Rattle.slot.specs.declared.Woken.TheVariants.{Nobody}
use Rattle.state.specs.State.{is_requesting}
use Rattle.model.specs.Answer.{Refusal, Reply, Local, ok, refusal, reason_value, unshared}
use Rattle.model.specs.Find.{slot_at, locate}
use Rattle.model.specs.Calls.{placed, settle, outcome, poll_disconnecting, requests, reason_in, ticket_at}
use Rattle.model.proofs.Laws.{located}

-- the reply by the state: 5 where the state is no request
abbrev pub request_in : ℕ → ℕ → ℕ → ConnectionState → Reply
request_in i h v state.Disconnected = refusal Refusal.Pending
request_in i h v (state.DisconnectRequest r) = ok (i ∷ h ∷ reason_value r ∷ v ∷ [])
request_in i h v (state.Disconnecting r) = refusal Refusal.Pending
request_in i h v state.Connecting = refusal Refusal.Pending
request_in i h v state.Connected = refusal Refusal.Pending

abbrev pub request_at : ℕ → ConnectionStorage → Local
request_at i s =
    unshared (request_in i s.handle s.life s.state) Nobody s

same_reply : (i h v : ℕ) (x : ConnectionState) → is_requesting x ≡ true → request_in i h v x ≡ ok (i ∷ h ∷ reason_in x ∷ v ∷ [])
same_reply i h v state.Disconnected e = cc
same_reply i h v (state.DisconnectRequest r) e = refl
same_reply i h v (state.Disconnecting r) e = cc
same_reply i h v state.Connecting e = cc
same_reply i h v state.Connected e = cc

same_settled : (t : ConnectionManager) (g : Located) → locate requests t ≡ g
    → settle (refusal Refusal.Pending) (λ i. request_at i (slot_at t i)) t g
    ≡ settle (refusal Refusal.Pending) (λ i. ticket_at i (slot_at t i)) t g
same_settled t Setup e = refl
same_settled t Absent e = refl
same_settled t (At i) e =
    ap (λ (r : Reply). placed t i (unshared r Nobody (slot_at t i)))
    (same_reply i (slot_at t i).handle (slot_at t i).life (slot_at t i).state (located requests t i e).2)

-- so the call is the model's
pub same_call : (t : ConnectionManager)
    → outcome requests (refusal Refusal.Pending) (λ i. request_at i (slot_at t i)) t ≡ poll_disconnecting t
same_call t = same_settled t (locate requests t) refl
