-- What the rows share. Assumes nothing.
use Rattle.std.specs.Prelude.{ℕ, List, [], ◌∷◌, map}
use Rattle.state.specs.declared.DisconnectReason.TheVariants as reason
use Rattle.slot.specs.declared.LeConnRole.TheVariants as role
use Rattle.slot.specs.declared.Address.{Address}
use Rattle.slot.specs.declared.ConnParams.{ConnParams}
use Rattle.event_queue.specs.declared.ConnectionEvent.TheVariants as event
use Rattle.slot.specs.declared.ConnectionManager.{ConnectionManager}
use Rattle.slot.specs.declared.Woken.TheVariants.{Nobody, Peripheral}
use Rattle.model.specs.Find.{slot_at}
use Rattle.model.specs.Link.{Op, bit, get_connected_handle, inc_ref, dec_ref, request_disconnect, request_handle_disconnect, withdraw_disconnect, confirm, disconnected, post_handle_event, next, poll_acquire_acl_send_lock, unlock_acl_send, poll_request_to_send, grant_end, confirm_sent, has_link_credits, exchange_att_mtu, get_att_mtu_handle, negotiate_att_mtu, get_stored_att_mtu, acquire_indication_slot, release_indication_slot, signal_indication_confirmation, wait_indication_confirmation}
use Rattle.model.specs.Calls.{Call, on_link, connects, poll_accept_call, poll_request_from_pool_call, pool_confirm_sent_call, pool_grant_end_call}
use Rattle.table_rows.specs.Row.{Item, gives, state_values}

abbrev pub address : (kind a b c d e f : ℕ) → Address
address kind a b c d e f = record { kind = kind; addr = record { 0 = a; 1 = b; 2 = c; 3 = d; 4 = e; 5 = f } }

abbrev pub peer : ℕ → Address
peer n = address 0 n 0x55 0x44 0x33 0x22 0x11

-- peer 1 with one byte changed: its kind, and each of the six
abbrev pub near_peers : List Address
near_peers =
    address 1 1 0x55 0x44 0x33 0x22 0x11
    ∷ address 0 2 0x55 0x44 0x33 0x22 0x11
    ∷ address 0 1 0x56 0x44 0x33 0x22 0x11
    ∷ address 0 1 0x55 0x45 0x33 0x22 0x11
    ∷ address 0 1 0x55 0x44 0x34 0x22 0x11
    ∷ address 0 1 0x55 0x44 0x33 0x23 0x11
    ∷ address 0 1 0x55 0x44 0x33 0x22 0x12
    ∷ []

abbrev pub params : ConnParams
params = record { conn_interval = 30000; peripheral_latency = 0; supervision_timeout = 2000000 }

-- a peripheral's link with handle h, from the peer n
abbrev pub connect_to : ℕ → ℕ → Call
connect_to h n = connects h (peer n) role.Peripheral params

abbrev pub accept : Call
accept = poll_accept_call role.Peripheral []

-- link 0 with handle 64, accepted
abbrev pub opened : List Item → List Item
opened is = gives (connect_to 64 1) 0 [] Peripheral ∷ gives accept 0 (0 ∷ []) Nobody ∷ is

-- a call on link 0 that answers 0 and wakes nobody
abbrev pub quiet : Op → ℕ → Item
quiet op n = gives (on_link op n) 0 [] Nobody

abbrev pub data_length : Op
data_length = post_handle_event (event.DataLengthUpdated 1 2 3 4)

abbrev pub params_of : ℕ → ConnectionManager → List ℕ
params_of i t =
    (slot_at t i).params.conn_interval ∷ (slot_at t i).params.peripheral_latency ∷ (slot_at t i).params.supervision_timeout ∷ []

-- slot 0's lost count, queue length, blocked_sends and references
abbrev pub counts : ConnectionManager → List ℕ
counts t = (slot_at t 0).lost ∷ (slot_at t 0).events.len ∷ (slot_at t 0).blocked_sends ∷ (slot_at t 0).refcount ∷ []

-- of slot 0: the lock, an indication in flight, and confirmed
abbrev pub flags : ConnectionManager → List ℕ
flags t =
    bit (slot_at t 0).acl_send_locked
    ∷ bit (slot_at t 0).indication_in_flight
    ∷ bit (slot_at t 0).indication_cfm_received
    ∷ []

abbrev pub state0 : ConnectionManager → List ℕ
state0 t = state_values (slot_at t 0).state

-- the end of a pool grant with these packets left
abbrev pub pool_end : (handle packets index life : ℕ) → Call
pool_end h k i v = pool_grant_end_call (record { handle = h; packets = k; index = i; life = v })

-- every call that goes by an index
abbrev pub by_index : ℕ → List Call
by_index i =
    on_link inc_ref i
    ∷ on_link dec_ref i
    ∷ on_link (request_disconnect reason.AuthenticationFailure) i
    ∷ on_link withdraw_disconnect i
    ∷ on_link (confirm 64 0 reason.AuthenticationFailure) i
    ∷ on_link (unlock_acl_send 64 0) i
    ∷ on_link (grant_end 64 0 1) i
    ∷ on_link next i
    ∷ on_link acquire_indication_slot i
    ∷ on_link release_indication_slot i
    ∷ on_link wait_indication_confirmation i
    ∷ pool_end 64 1 i 0
    ∷ []

-- every call that goes by a handle
abbrev pub by_handle : ℕ → List Call
by_handle h =
    on_link get_connected_handle h
    ∷ on_link (request_handle_disconnect reason.AuthenticationFailure) h
    ∷ on_link (disconnected 8) h
    ∷ on_link data_length h
    ∷ on_link poll_acquire_acl_send_lock h
    ∷ on_link (poll_request_to_send 0 1 0) h
    ∷ on_link (confirm_sent 1) h
    ∷ on_link (has_link_credits 0) h
    ∷ on_link (exchange_att_mtu 185) h
    ∷ on_link get_att_mtu_handle h
    ∷ on_link (negotiate_att_mtu 185) h
    ∷ on_link get_stored_att_mtu h
    ∷ on_link signal_indication_confirmation h
    ∷ poll_request_from_pool_call h 1
    ∷ pool_confirm_sent_call h 1
    ∷ []

-- each of these calls is refused with this number
abbrev pub all_refused : ℕ → List Call → List Item
all_refused n cs = map (λ (c : Call). gives c n [] Nobody) cs
