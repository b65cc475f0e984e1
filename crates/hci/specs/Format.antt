-- The bytes of each event, and which values are of the form: Core Specification, Vol 4 Part E, and document 01's limits.
-- Assumes nothing.
use Rattle.std.specs.Prelude.{ℕ, ◌%◌, Bool, true, cond, ◌&&◌, List, [], ◌∷◌, ◌++◌, eqb, length}
use Rattle.slot.specs.declared.BdAddr.{BdAddr}
use Rattle.limits.specs.declared.Field.TheVariants as field
use Rattle.limits.specs.Limits.{within}
use Rattle.wire.specs.Wire.{le16}
use Rattle.hci.specs.declared.HciEvent.{HciEvent}
use Rattle.hci.specs.declared.HciEvent.TheVariants.{DisconnectionComplete, LeConnectionComplete, LeConnectionUpdateComplete}

-- ---- the bytes

-- 5.4.4: the event's code, the length of its parameters, the parameters
abbrev pub event : ℕ → List ℕ → List ℕ
event code parameters = code ∷ length parameters ∷ parameters

-- 7.7.65: the parameters of an LE event begin with its subevent code
abbrev pub le_event : ℕ → List ℕ → List ℕ
le_event subevent parameters = event 0x3E (subevent ∷ parameters)

abbrev pub addr_bytes : BdAddr → List ℕ
addr_bytes a = a.0 ∷ a.1 ∷ a.2 ∷ a.3 ∷ a.4 ∷ a.5 ∷ []

-- 7.7.5, 7.7.65.1, 7.7.65.3
abbrev pub event_bytes : HciEvent → List ℕ
event_bytes (DisconnectionComplete e) = event 0x05 (e.status ∷ (le16 e.handle ++ (e.reason ∷ [])))
event_bytes (LeConnectionComplete e) =
    le_event 0x01
    (e.status
    ∷ (le16 e.handle
    ++ (e.role
    ∷ (e.peer_addr_kind
    ∷ (addr_bytes e.peer_addr
    ++ (le16 e.conn_interval
    ++ (le16 e.peripheral_latency ++ (le16 e.supervision_timeout ++ (e.central_clock_accuracy ∷ [])))))))))
event_bytes (LeConnectionUpdateComplete e) =
    le_event 0x03
    (e.status
    ∷ (le16 e.handle ++ (le16 e.conn_interval ++ (le16 e.peripheral_latency ++ le16 e.supervision_timeout))))

-- ---- the form

-- "With status 0" the limits hold; "Other statuses keep raw fields"
abbrev pub if_done : ℕ → Bool → Bool
if_done status limits = cond (eqb status 0) limits true

-- a handle has 12 bits whatever the status
abbrev pub of_form : HciEvent → Bool
of_form (DisconnectionComplete e) = within field.RawHandle e.handle && if_done e.status (within field.Handle e.handle)
of_form (LeConnectionComplete e) =
    within field.RawHandle e.handle
    && if_done e.status
    (within field.Handle e.handle
    && (within field.Role e.role
    && (within field.AddrKind e.peer_addr_kind
    && (within field.ConnInterval e.conn_interval
    && (within field.PeripheralLatency e.peripheral_latency
    && (within field.SupervisionTimeout e.supervision_timeout
    && within field.ClockAccuracy e.central_clock_accuracy))))))
of_form (LeConnectionUpdateComplete e) =
    within field.RawHandle e.handle
    && if_done e.status
    (within field.Handle e.handle
    && (within field.ConnInterval e.conn_interval
    && (within field.PeripheralLatency e.peripheral_latency
    && within field.SupervisionTimeout e.supervision_timeout)))

-- "Handles use the low 12 bits; the rest is ignored on reading"
abbrev pub handle_bits : ℕ → ℕ
handle_bits h = h % 4096

abbrev pub masked : HciEvent → HciEvent
masked (DisconnectionComplete e) =
    DisconnectionComplete (record { status = e.status; handle = handle_bits e.handle; reason = e.reason })
masked (LeConnectionComplete e) =
    LeConnectionComplete
    (record {
      status = e.status;
      handle = handle_bits e.handle;
      role = e.role;
      peer_addr_kind = e.peer_addr_kind;
      peer_addr = e.peer_addr;
      conn_interval = e.conn_interval;
      peripheral_latency = e.peripheral_latency;
      supervision_timeout = e.supervision_timeout;
      central_clock_accuracy = e.central_clock_accuracy;
    })
masked (LeConnectionUpdateComplete e) =
    LeConnectionUpdateComplete
    (record {
      status = e.status;
      handle = handle_bits e.handle;
      conn_interval = e.conn_interval;
      peripheral_latency = e.peripheral_latency;
      supervision_timeout = e.supervision_timeout;
    })
