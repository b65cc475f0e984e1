-- The event that a list of bytes is, if it is one. That this is the format's inverse is shown in Laws. Assumes nothing.
use Rattle.std.specs.Prelude.{ℕ, ◌+◌, Bool, cond, ◌&&◌, List, [], ◌∷◌, eqb, length, get_or}
use Rattle.std.proofs.Math.Option.{Option, none, some}
use Rattle.slot.specs.declared.BdAddr.{BdAddr}
use Rattle.model.specs.Answer.{Refusal, Reply, ok, refusal}
use Rattle.wire.specs.Wire.{u16_at}
use Rattle.hci.specs.declared.DisconnectionComplete.{DisconnectionComplete}
use Rattle.hci.specs.declared.LeConnectionComplete.{LeConnectionComplete}
use Rattle.hci.specs.declared.LeConnectionUpdateComplete.{LeConnectionUpdateComplete}
use Rattle.hci.specs.declared.HciEvent.{HciEvent}
use Rattle.hci.specs.declared.HciEvent.TheVariants as event
use Rattle.hci.specs.Format.{of_form, masked}

abbrev byte : List ℕ → ℕ → ℕ
byte s i = get_or s i 0

-- an event with this code and n bytes of parameters, and nothing behind them
abbrev pub is_event : ℕ → ℕ → List ℕ → Bool
is_event code n s = eqb (length s) (2 + n) && (eqb (byte s 0) code && eqb (byte s 1) n)

abbrev pub is_le_event : ℕ → ℕ → List ℕ → Bool
is_le_event subevent n s = is_event 0x3E n s && eqb (byte s 2) subevent

abbrev pub disconnection_at : List ℕ → DisconnectionComplete
disconnection_at s = record { status = byte s 2; handle = u16_at s 3; reason = byte s 5 }

abbrev pub addr_at : List ℕ → ℕ → BdAddr
addr_at s i = record { 0 = byte s i; 1 = byte s (i + 1); 2 = byte s (i + 2); 3 = byte s (i + 3); 4 = byte s (i + 4); 5 = byte s (i + 5) }

abbrev pub connection_at : List ℕ → LeConnectionComplete
connection_at s =
    record {
      status = byte s 3;
      handle = u16_at s 4;
      role = byte s 6;
      peer_addr_kind = byte s 7;
      peer_addr = addr_at s 8;
      conn_interval = u16_at s 14;
      peripheral_latency = u16_at s 16;
      supervision_timeout = u16_at s 18;
      central_clock_accuracy = byte s 20;
    }

abbrev pub update_at : List ℕ → LeConnectionUpdateComplete
update_at s =
    record {
      status = byte s 3;
      handle = u16_at s 4;
      conn_interval = u16_at s 6;
      peripheral_latency = u16_at s 8;
      supervision_timeout = u16_at s 10;
    }

-- the event with all bits of its handle, whatever its values
abbrev pub raw_event_in : List ℕ → Option HciEvent
raw_event_in s =
    cond (is_event 0x05 4 s) (some (event.DisconnectionComplete (disconnection_at s)))
    (cond (is_le_event 0x01 19 s) (some (event.LeConnectionComplete (connection_at s)))
    (cond (is_le_event 0x03 10 s) (some (event.LeConnectionUpdateComplete (update_at s))) none))

abbrev pub checked : Option HciEvent → Option HciEvent
checked none = none
checked (some e) = cond (of_form (masked e)) (some (masked e)) none

abbrev pub event_in : List ℕ → Option HciEvent
event_in s = checked (raw_event_in s)

-- ---- the answer of a reader: 9, or the event's codes and its fields

abbrev pub event_values : HciEvent → List ℕ
event_values (event.DisconnectionComplete e) = 0x05 ∷ e.status ∷ e.handle ∷ e.reason ∷ []
event_values (event.LeConnectionComplete e) =
    0x3E
    ∷ 0x01
    ∷ e.status
    ∷ e.handle
    ∷ e.role
    ∷ e.peer_addr_kind
    ∷ e.peer_addr.0
    ∷ e.peer_addr.1
    ∷ e.peer_addr.2
    ∷ e.peer_addr.3
    ∷ e.peer_addr.4
    ∷ e.peer_addr.5
    ∷ e.conn_interval
    ∷ e.peripheral_latency
    ∷ e.supervision_timeout
    ∷ e.central_clock_accuracy
    ∷ []
event_values (event.LeConnectionUpdateComplete e) =
    0x3E
    ∷ 0x03
    ∷ e.status
    ∷ e.handle
    ∷ e.conn_interval
    ∷ e.peripheral_latency
    ∷ e.supervision_timeout
    ∷ []

abbrev pub event_reply : Option HciEvent → Reply
event_reply none = refusal Refusal.Packet
event_reply (some e) = ok (event_values e)
