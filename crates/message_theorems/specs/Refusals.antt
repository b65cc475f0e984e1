-- What a refused message leaves behind: nothing but what document 01's row 4 names. This file is the statement,
-- `MessageRefusals`, of every message and every table, well formed or not. It is proved in Left.antt; Instances.antt has messages
-- that it speaks of. Assumes nothing.
use Rattle.std.specs.Prelude.{ℕ, ◌≡◌, ◌≢◌, List, [], ◌∷◌}
use Rattle.std.proofs.Math.Option.{Option}
use Rattle.slot.specs.declared.ConnectionManager.{ConnectionManager}
use Rattle.model.specs.Calls.{Call}
use Rattle.model_theorems.specs.Refusals.{LeftBy4}
use Rattle.hci.specs.declared.HciEvent.{HciEvent}
use Rattle.completed_packets.specs.Format.{Pair}
use Rattle.att_pdu.specs.Format.{Message}
use Rattle.messages.specs.Received.{Received, received_as, received_att_as}
use Rattle.message_theorems.specs.Reach.{calls_as, att_calls_as}

-- A message of the calls cs. Refused with anything but 4: the table as it was. With 4: its one call posts an event that meets a
-- full queue, and leaves what that leaves.
pub record MessageLeft (cs : List Call) (t : ConnectionManager) (r : Received) : Type 0 where
  pub unchanged : r.reply.number ≢ 0 → r.reply.number ≢ 4 → r.table ≡ t
  pub out_of_memory : r.reply.number ≡ 4 → (c : Call) × (cs ≡ c ∷ []) × LeftBy4 c t 4 r.table

-- whatever a reader found: an event, the pairs of a 13, or neither; and an ATT message, or none
unfoldable pub MessageRefusals : Type 0
MessageRefusals =
    ((e : Option HciEvent) (ps : Option (List Pair)) (t : ConnectionManager) → MessageLeft (calls_as e ps) t (received_as e ps t))
    × ((h : ℕ) (m : Option Message) (t : ConnectionManager) → MessageLeft (att_calls_as h m) t (received_att_as h m t))
