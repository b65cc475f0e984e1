-- `poll_accept` with the peers of any set. Assumes nothing.
use Rattle.std.specs.Prelude.{Bool, ◌&&◌}
use Rattle.slot.specs.declared.LeConnRole.{LeConnRole}
use Rattle.slot.specs.declared.Address.{Address}
use Rattle.slot.specs.declared.ConnectionManager.{ConnectionManager}
use Rattle.state.specs.State.{is_connecting}
use Rattle.model.specs.Answer.{Refusal, Outcome, refusal}
use Rattle.model.specs.Find.{Test, slot_at}
use Rattle.model.specs.Calls.{same_role, accepted_at, outcome}

-- Connecting, of the role, and of a peer that the set has
abbrev pub accepts_of : LeConnRole → (Address → Bool) → Test
accepts_of r has i s = is_connecting s.state && (same_role r s.role && has s.peer_identity)

-- the lowest slot that fits is accepted, else 5
abbrev pub accept_by : Test → ConnectionManager → Outcome
accept_by test t = outcome test (refusal Refusal.Pending) (λ i. accepted_at i (slot_at t i)) t
