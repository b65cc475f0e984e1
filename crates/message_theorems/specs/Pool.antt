-- "Message 13 feeds link credits only": no received message but one that closes a link moves packets of the pool or ends a wait.
-- The statement, `MessagesLeavePool`, of every message and every table, well formed or not. It is proved in Pool.antt of proofs/;
-- PoolCases.antt has cases of it. Assumes nothing.
use Rattle.std.specs.Prelude.{ℕ, ◌≡◌, Bool, false, List, eqb}
use Rattle.std.proofs.Math.Option.{Option, none, some}
use Rattle.slot.specs.declared.ConnectionManager.{ConnectionManager}
use Rattle.model.specs.Find.{slot_at}
use Rattle.hci.specs.declared.HciEvent.{HciEvent}
use Rattle.hci.specs.declared.HciEvent.TheVariants.{DisconnectionComplete, LeConnectionComplete, LeConnectionUpdateComplete}
use Rattle.completed_packets.specs.Format.{Pair}
use Rattle.att_pdu.specs.Format.{Message}
use Rattle.messages.specs.Received.{received_as, received_att_as}

-- the pool, and what each slot holds of it, as before
abbrev pub PoolAsBefore : ConnectionManager → ConnectionManager → Type 0
PoolAsBefore t u = (u.pool ≡ t.pool) × ((i : ℕ) → (slot_at u i).pool_held ≡ (slot_at t i).pool_held)

-- a Disconnection Complete with status 0
abbrev pub closes_link : Option HciEvent → Bool
closes_link none = false
closes_link (some (DisconnectionComplete e)) = eqb e.status 0
closes_link (some (LeConnectionComplete e)) = false
closes_link (some (LeConnectionUpdateComplete e)) = false

unfoldable pub MessagesLeavePool : Type 0
MessagesLeavePool =
    ((e : Option HciEvent) (ps : Option (List Pair)) (t : ConnectionManager) → closes_link e ≡ false
    → PoolAsBefore t (received_as e ps t).table)
    × ((h : ℕ) (m : Option Message) (t : ConnectionManager) → PoolAsBefore t (received_att_as h m t).table)
