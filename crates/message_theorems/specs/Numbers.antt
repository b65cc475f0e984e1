-- Which message can answer which number, by what it is read as: document 01's table "What a call gives back", with 15, which 02
-- adds to it. This file is the statement, `MessageNumbers`. It is proved in Answers.antt; that none is idle is computed in the crate
-- answer_rows. Assumes nothing.
use Rattle.std.specs.Prelude.{ℕ, ◌≡◌, true, List, [], ◌∷◌}
use Rattle.std.proofs.Math.Option.{Option, none, some}
use Rattle.slot.specs.declared.ConnectionManager.{ConnectionManager}
use Rattle.number_theorems.specs.Numbers.{is_in}
use Rattle.hci.specs.declared.HciEvent.{HciEvent}
use Rattle.hci.specs.declared.HciEvent.TheVariants.{DisconnectionComplete, LeConnectionComplete, LeConnectionUpdateComplete}
use Rattle.completed_packets.specs.Format.{Pair}
use Rattle.att_pdu.specs.Format.{Message, exchange_mtu_req, exchange_mtu_rsp, handle_value_ind, handle_value_cfm}
use Rattle.messages.specs.Received.{received_as, received_att_as}

-- an event; the pairs of a 13; neither
abbrev pub numbers_as : Option HciEvent → Option (List Pair) → List ℕ
numbers_as (some (DisconnectionComplete e)) ps = 0 ∷ 2 ∷ 8 ∷ []
numbers_as (some (LeConnectionComplete e)) ps = 0 ∷ 2 ∷ 8 ∷ 15 ∷ []
numbers_as (some (LeConnectionUpdateComplete e)) ps = 0 ∷ 2 ∷ 4 ∷ 8 ∷ []
numbers_as none (some ps) = 0 ∷ 8 ∷ []
numbers_as none none = 9 ∷ []

abbrev pub att_numbers_as : Option Message → List ℕ
att_numbers_as (some (exchange_mtu_req mtu)) = 0 ∷ 8 ∷ []
att_numbers_as (some (exchange_mtu_rsp mtu)) = 0 ∷ 8 ∷ []
att_numbers_as (some (handle_value_ind attribute value)) = 0 ∷ 8 ∷ []
att_numbers_as (some handle_value_cfm) = 0 ∷ 8 ∷ []
att_numbers_as none = 9 ∷ []

unfoldable pub MessageNumbers : Type 0
MessageNumbers =
    ((e : Option HciEvent) (ps : Option (List Pair)) (t : ConnectionManager)
    → is_in (received_as e ps t).reply.number (numbers_as e ps) ≡ true)
    × ((h : ℕ) (m : Option Message) (t : ConnectionManager)
    → is_in (received_att_as h m t).reply.number (att_numbers_as m) ≡ true)
