-- What a received message does to the table: it is a list of calls, one after another. Assumes nothing.
use Rattle.std.specs.Prelude.{ℕ, ◌+◌, ◌*◌, Bool, cond, ◌||◌, List, [], ◌∷◌, map, eqb}
use Rattle.std.proofs.Math.Option.{Option, none, some}
use Rattle.slot.specs.declared.LeConnRole.{LeConnRole}
use Rattle.slot.specs.declared.LeConnRole.TheVariants as role
use Rattle.slot.specs.declared.Address.{Address}
use Rattle.slot.specs.declared.ConnParams.{ConnParams}
use Rattle.event_queue.specs.declared.ConnectionEvent.{ConnectionEvent}
use Rattle.event_queue.specs.declared.ConnectionEvent.TheVariants as event
use Rattle.slot.specs.declared.ConnectionManager.{ConnectionManager}
use Rattle.model.specs.Answer.{Refusal, Reply, Outcome, number_of, ok, refusal}
use Rattle.model.specs.Find.{well_formed}
use Rattle.model.specs.Link.{disconnected, post_handle_event, confirm_sent, negotiate_att_mtu, signal_indication_confirmation}
use Rattle.model.specs.Calls.{Call, on_link, connects}
use Rattle.model.specs.History.{after, outcomes}
use Rattle.woken_set.specs.declared.WokenSet.{WokenSet}
use Rattle.woken_set.specs.WokenSet.{nobody, added}
use Rattle.hci.specs.declared.LeConnectionComplete.{LeConnectionComplete}
use Rattle.hci.specs.declared.LeConnectionUpdateComplete.{LeConnectionUpdateComplete}
use Rattle.hci.specs.declared.HciEvent.{HciEvent}
use Rattle.hci.specs.declared.HciEvent.TheVariants.{DisconnectionComplete, LeConnectionComplete as ConnectionComplete, LeConnectionUpdateComplete as ConnectionUpdateComplete}
use Rattle.hci.specs.Read.{event_in}
use Rattle.completed_packets.specs.Format.{Pair}
use Rattle.completed_packets.specs.Read.{completed_in}
use Rattle.att_pdu.specs.Format.{Message, exchange_mtu_req, exchange_mtu_rsp, handle_value_ind, handle_value_cfm}
use Rattle.att_pdu.specs.Read.{message_in}

-- ---- several calls: their answers, whom they wake together, and the table at the end

-- over any state T: a recording runs messages on one table or on several
pub record ReceivedOn (T : Type 0) : Type 0 where
  pub reply : Reply
  pub woken : WokenSet
  pub table : T

abbrev pub Received : Type 0
Received = ReceivedOn ConnectionManager

abbrev pub refused_with : {T : Type 0} → Refusal → T → ReceivedOn T
refused_with r t = record { reply = refusal r; woken = nobody; table = t }

abbrev pub woken_by : List Outcome → WokenSet → WokenSet
woken_by [] w = w
woken_by (o ∷ os) w = woken_by os (added w o.woken)

-- the reply is made of the calls' outcomes
abbrev pub ran_all : (List Outcome → Reply) → List Call → ConnectionManager → Received
ran_all reply calls t =
    record { reply = reply (outcomes calls t); woken = woken_by (outcomes calls t) nobody; table = after calls t }

-- "any call on a table whose slot or queue count is out of bounds", or whose pool does not fit its slots: 8, also where the message
-- runs no call
abbrev pub run_all : (List Outcome → Reply) → List Call → ConnectionManager → Received
run_all reply calls t = cond (well_formed t) (ran_all reply calls t) (refused_with Refusal.Setup t)

-- ---- an event that runs one call or none

-- the call's own reply; 0 without values where none is run
abbrev pub only_reply : List Outcome → Reply
only_reply [] = ok []
only_reply (o ∷ os) = o.reply

-- "Other statuses .. change no table"
abbrev pub if_status0 : ℕ → Call → List Call
if_status0 status c = cond (eqb status 0) (c ∷ []) []

-- "role 0 to 1 (Central, Peripheral)"
abbrev pub role_of : ℕ → LeConnRole
role_of r = cond (eqb r 0) role.Central role.Peripheral

-- "units of 1,250 µs", "10,000 µs"
abbrev pub interval_of : ℕ → ℕ
interval_of n = n * 1250

abbrev pub timeout_of : ℕ → ℕ
timeout_of n = n * 10000

abbrev pub peer_of : LeConnectionComplete → Address
peer_of e = record { kind = e.peer_addr_kind; addr = e.peer_addr }

abbrev pub params_of : LeConnectionComplete → ConnParams
params_of e =
    record {
      conn_interval = interval_of e.conn_interval;
      peripheral_latency = e.peripheral_latency;
      supervision_timeout = timeout_of e.supervision_timeout;
    }

abbrev pub updated_of : LeConnectionUpdateComplete → ConnectionEvent
updated_of e =
    event.ConnectionParamsUpdated e.peripheral_latency (interval_of e.conn_interval)
    (timeout_of e.supervision_timeout)

-- "Status 0 runs `disconnected`, `connect`, or a ConnectionParamsUpdated post"
abbrev pub event_calls : HciEvent → List Call
event_calls (DisconnectionComplete e) = if_status0 e.status (on_link (disconnected e.reason) e.handle)
event_calls (ConnectionComplete e) = if_status0 e.status (connects e.handle (peer_of e) (role_of e.role) (params_of e))
event_calls (ConnectionUpdateComplete e) =
    if_status0 e.status (on_link (post_handle_event (updated_of e)) e.handle)

-- ---- Number Of Completed Packets

-- "Pairs of 13 run in order"
abbrev pub pair_call : Pair → Call
pair_call p = on_link (confirm_sent p.num_completed_packets) p.handle

abbrev pub pair_calls : List Pair → List Call
pair_calls ps = map pair_call ps

abbrev pub is_applied : Reply → Bool
is_applied r = eqb r.number 0

-- "2 or 7 skips that pair"
abbrev pub is_skipped : Reply → Bool
is_skipped r = eqb r.number (number_of Refusal.NotFound) || eqb r.number (number_of Refusal.Credits)

abbrev pub count_of : (Reply → Bool) → List Outcome → ℕ
count_of test [] = 0
count_of test (o ∷ os) = cond (test o.reply) 1 0 + count_of test os

-- "the answer counts applied and skipped"
abbrev pub counts_reply : List Outcome → Reply
counts_reply os = ok (count_of is_applied os ∷ count_of is_skipped os ∷ [])

-- ---- any HCI event

abbrev pub received_as : Option HciEvent → Option (List Pair) → ConnectionManager → Received
received_as (some e) ps t = run_all only_reply (event_calls e) t
received_as none (some ps) t = run_all counts_reply (pair_calls ps) t
received_as none none t = refused_with Refusal.Packet t

abbrev pub received : List ℕ → ConnectionManager → Received
received s t = received_as (event_in s) (completed_in s) t

-- ---- an ATT message on the link handle h

-- "02 and 03 run the exchange and 1E the signal; 1D only hands back its value": the exchange by the specification
abbrev pub att_calls : ℕ → Message → List Call
att_calls h (exchange_mtu_req mtu) = on_link (negotiate_att_mtu mtu) h ∷ []
att_calls h (exchange_mtu_rsp mtu) = on_link (negotiate_att_mtu mtu) h ∷ []
att_calls h (handle_value_ind attribute value) = []
att_calls h handle_value_cfm = on_link signal_indication_confirmation h ∷ []

-- of an indication the attribute's handle, behind the opcode; its value is a part of the bytes
abbrev pub att_reply : Message → List Outcome → Reply
att_reply (exchange_mtu_req mtu) os = only_reply os
att_reply (exchange_mtu_rsp mtu) os = only_reply os
att_reply (handle_value_ind attribute value) os = ok (0x1D ∷ attribute ∷ [])
att_reply handle_value_cfm os = only_reply os

abbrev pub received_att_as : ℕ → Option Message → ConnectionManager → Received
received_att_as h none t = refused_with Refusal.Packet t
received_att_as h (some m) t = run_all (att_reply m) (att_calls h m) t

abbrev pub received_att : ℕ → List ℕ → ConnectionManager → Received
received_att h s t = received_att_as h (message_in s) t
