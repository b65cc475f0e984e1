-- Rows from a table that is handed in, and for the slot that a search finds. Assumes nothing.
use Rattle.std.specs.Prelude.{ℕ, Some, true, List, [], ◌∷◌, ◌++◌}
use Rattle.state.specs.declared.DisconnectReason.{DisconnectReason}
use Rattle.state.specs.declared.DisconnectReason.TheVariants as reason
use Rattle.state.specs.declared.ConnectionState.{ConnectionState}
use Rattle.state.specs.declared.ConnectionState.TheVariants as state
use Rattle.event_queue.specs.Queue.{empty_queue}
use Rattle.slot.specs.declared.LeConnRole.TheVariants as role
use Rattle.slot.specs.declared.ConnectionStorage.{ConnectionStorage}
use Rattle.slot.specs.declared.ConnectionManager.{ConnectionManager}
use Rattle.slot.specs.Fresh.{fresh_slot}
use Rattle.slot.specs.Set.{set_state, set_handle, set_refcount, set_blocked_sends, set_indication_in_flight, set_indication_cfm_received, set_att_mtu, set_link_credits, set_subrating_params, set_acl_send_locked, set_events, set_lost}
use Rattle.slot.specs.declared.Woken.TheVariants.{Nobody, Central, Peripheral, Link}
use Rattle.model.specs.Find.{slot_at}
use Rattle.model.specs.Link.{bit, get_connected_handle, inc_ref, request_handle_disconnect, disconnected, poll_acquire_acl_send_lock, poll_request_to_send, confirm_sent, has_link_credits, exchange_att_mtu, get_att_mtu_handle, negotiate_att_mtu, get_stored_att_mtu, signal_indication_confirmation}
use Rattle.model.specs.History.{fresh_with, fresh_table, no_table, after}
use Rattle.model.specs.Calls.{Call, put, on_link, poll_accept_call, get_connection_by_peer_address_call, poll_disconnecting_call, set_link_credits_call, total_lost_call, grant_confirm}
use Rattle.table_rows.specs.Row.{gives, shows, leaves, Row, from, finds, state_values, subrating_values}
use Rattle.table_rows.specs.Shared.{peer, connect_to, accept, quiet, data_length, counts, state0, by_index, by_handle, all_refused}

-- ---- tables handed in

abbrev pub two_slots : ConnectionStorage → ConnectionStorage → ConnectionManager
two_slots a b = put (put (fresh_table 2 251 4) 0 a) 1 b

-- handle 64, in this state
abbrev with_handle : ConnectionState → ConnectionStorage
with_handle s = set_handle (set_state fresh_slot s) 64

-- a queue that says it has n events
abbrev pub queue_of : ℕ → ConnectionStorage
queue_of n = set_events fresh_slot (record { entries = empty_queue.entries; len = n })

-- a link whose lock is held and whose queue is full; both its counts at their largest
abbrev at_the_end : ConnectionManager
at_the_end = put t 0 (set_lost (set_blocked_sends (slot_at t 0) 4294967295) 4294967295)
  where
    t : ConnectionManager
    t =
        after
        (connect_to 64 1
        ∷ accept
        ∷ on_link poll_acquire_acl_send_lock 64
        ∷ on_link data_length 64
        ∷ on_link data_length 64
        ∷ on_link data_length 64
        ∷ on_link data_length 64
        ∷ [])
        (fresh_table 1 251 4)

-- 8 from every call but the one that has no table, and nothing is changed
abbrev pub eights : ConnectionManager → Row
eights t =
    from t
    (all_refused 8
    (by_index 0
    ++ by_handle 64
    ++ (connect_to 64 1 ∷ accept ∷ get_connection_by_peer_address_call (peer 1) ∷ poll_disconnecting_call ∷ set_link_credits_call 9 ∷ total_lost_call ∷ []))
    ++ (gives (grant_confirm (record { handle = 64; packets = 3; index = 9; life = 5 }) 4) 0 (64 ∷ 0 ∷ 9 ∷ 5 ∷ []) Nobody
    ∷ leaves t
    ∷ []))

-- a slot with handle 64 of which nothing is fresh, in this state and with these references
abbrev pub laden : ConnectionState → ℕ → ConnectionStorage
laden s refs =
    set_handle
    (set_state
    (set_refcount
    (set_subrating_params
    (set_link_credits (set_acl_send_locked (set_att_mtu (set_blocked_sends (set_indication_cfm_received (set_indication_in_flight (queue_of 2) true) true) 7) 30) true) 5)
    (Some (record { subrate_factor = 2; continuation_number = 9 })))
    refs)
    s)
    64

-- of slot 0: blocked_sends, both indication flags, the queue length; then MTU, lock, credits and references
abbrev pub load : ConnectionManager → List ℕ
load t =
    (slot_at t 0).blocked_sends
    ∷ bit (slot_at t 0).indication_in_flight
    ∷ bit (slot_at t 0).indication_cfm_received
    ∷ (slot_at t 0).events.len
    ∷ (slot_at t 0).att_mtu
    ∷ bit (slot_at t 0).acl_send_locked
    ∷ (slot_at t 0).link_credits
    ∷ (slot_at t 0).refcount
    ∷ []

-- one slot, with the role and the peer of the fresh one
abbrev one_slot : ConnectionState → ConnectionManager
one_slot s = put (fresh_table 1 251 4) 0 (with_handle s)

abbrev accept_central : Call
accept_central = poll_accept_call role.Central []

abbrev by_peer : Call
by_peer = get_connection_by_peer_address_call fresh_slot.peer_identity

-- a slot that requests with this reason: the ticket's value
abbrev ticket : DisconnectReason → ℕ → Row
ticket r v = from (two_slots fresh_slot (with_handle (state.DisconnectRequest r))) (gives poll_disconnecting_call 0 (1 ∷ 64 ∷ v ∷ 0 ∷ []) Nobody ∷ [])

abbrev pub handed_in : List Row
handed_in =
    -- a slot or queue count out of bounds: 8; a slot past the count is not looked at
    eights no_table
    ∷ eights (fresh_with 17 247 4)
    ∷ eights (two_slots fresh_slot (queue_of 5))
    ∷ from (put (fresh_table 1 251 4) 1 (queue_of 5)) (gives (connect_to 64 1) 0 [] Peripheral ∷ [])
    -- both counts wrap
    ∷ from at_the_end
    (gives (on_link poll_acquire_acl_send_lock 64) 5 [] Nobody
    ∷ gives (on_link data_length 64) 4 [] Nobody
    ∷ shows counts (0 ∷ 4 ∷ 0 ∷ 1 ∷ [])
    ∷ [])
    -- 6 at 255, and from an accept of a slot with references: the search stops there
    ∷ from (two_slots (set_refcount (with_handle state.Connected) 254) fresh_slot)
    (quiet inc_ref 0
    ∷ gives (on_link inc_ref 0) 6 [] Nobody
    ∷ gives (on_link get_connected_handle 64) 6 [] Nobody
    ∷ gives (get_connection_by_peer_address_call fresh_slot.peer_identity) 6 [] Nobody
    ∷ shows counts (0 ∷ 0 ∷ 0 ∷ 255 ∷ [])
    ∷ [])
    ∷ from (two_slots (set_refcount (with_handle state.Connecting) 1) (with_handle state.Connecting))
    (gives (poll_accept_call role.Central []) 6 [] Nobody ∷ shows state0 (3 ∷ []) ∷ [])
    -- handles may repeat: the lower slot is found, where its state fits
    ∷ from (two_slots (with_handle state.Connecting) (with_handle state.Connected))
    (quiet (request_handle_disconnect reason.AuthenticationFailure) 64
    ∷ quiet data_length 64
    ∷ gives (on_link (disconnected 8) 64) 0 [] (Link 0)
    ∷ shows (λ t. state_values (slot_at t 0).state ++ state_values (slot_at t 1).state) (0 ∷ 4 ∷ [])
    ∷ shows (λ t. (slot_at t 0).events.len ∷ (slot_at t 1).events.len ∷ []) (1 ∷ 1 ∷ [])
    ∷ [])
    -- what `connect` keeps, blocked_sends and both flags, and what it clears; the credits are the default
    ∷ from (two_slots (laden state.Disconnected 0) fresh_slot)
    (gives (connect_to 64 1) 0 [] Peripheral
    ∷ shows load (7 ∷ 1 ∷ 1 ∷ 0 ∷ 0 ∷ 0 ∷ 0 ∷ 0 ∷ [])
    ∷ shows (λ t. subrating_values (slot_at t 0).subrating_params) []
    ∷ [])
    -- what `disconnected` clears and what it keeps: credits, references, handle, MTU
    ∷ from (two_slots (laden state.Connected 3) fresh_slot)
    (gives (on_link (disconnected 8) 64) 0 [] (Link 0)
    ∷ shows load (0 ∷ 0 ∷ 0 ∷ 3 ∷ 30 ∷ 0 ∷ 5 ∷ 3 ∷ [])
    ∷ shows (λ t. (slot_at t 0).handle ∷ state_values (slot_at t 0).state) (64 ∷ 0 ∷ [])
    ∷ shows (λ t. subrating_values (slot_at t 0).subrating_params) (2 ∷ 9 ∷ [])
    ∷ [])
    -- one slot, state by state: `connect`, `poll_accept`, the look-up by peer, `poll_disconnecting`
    ∷ from (one_slot state.Connecting)
    (gives (connect_to 65 2) 2 [] Nobody ∷ gives by_peer 2 [] Nobody ∷ gives poll_disconnecting_call 5 [] Nobody ∷ gives accept_central 0 (0 ∷ []) Nobody ∷ [])
    ∷ from (one_slot state.Connected)
    (gives (connect_to 65 2) 2 [] Nobody ∷ gives accept_central 5 [] Nobody ∷ gives poll_disconnecting_call 5 [] Nobody ∷ gives by_peer 0 (0 ∷ []) Nobody ∷ [])
    ∷ from (one_slot (state.DisconnectRequest reason.AuthenticationFailure))
    (gives (connect_to 65 2) 2 [] Nobody ∷ gives accept_central 5 [] Nobody ∷ gives by_peer 2 [] Nobody ∷ gives poll_disconnecting_call 0 (0 ∷ 64 ∷ 5 ∷ 0 ∷ []) Nobody ∷ [])
    ∷ from (one_slot (state.Disconnecting reason.AuthenticationFailure))
    (gives (connect_to 65 2) 2 [] Nobody ∷ gives accept_central 5 [] Nobody ∷ gives by_peer 2 [] Nobody ∷ gives poll_disconnecting_call 5 [] Nobody ∷ [])
    ∷ from (one_slot state.Disconnected)
    (gives accept_central 5 [] Nobody ∷ gives by_peer 2 [] Nobody ∷ gives poll_disconnecting_call 5 [] Nobody ∷ gives (connect_to 65 2) 0 [] Peripheral ∷ [])
    -- the seven reasons
    ∷ ticket reason.AuthenticationFailure 0x05
    ∷ ticket reason.RemoteUserTerminatedConn 0x13
    ∷ ticket reason.RemoteDeviceTerminatedConnLowResources 0x14
    ∷ ticket reason.RemoteDeviceTerminatedConnPowerOff 0x15
    ∷ ticket reason.UnsupportedRemoteFeature 0x1A
    ∷ ticket reason.PairingWithUnitKeyNotSupported 0x29
    ∷ ticket reason.UnacceptableConnParameters 0x3B
    ∷ []

-- ---- which slot of a handle: "live", "Connected", "open"

abbrev pub searches : List Row
searches =
    finds get_connected_handle (1 ∷ 0 ∷ 1 ∷ 1 ∷ 1 ∷ [])
    ∷ finds (request_handle_disconnect reason.AuthenticationFailure) (0 ∷ 0 ∷ 1 ∷ 1 ∷ 1 ∷ [])
    ∷ finds (disconnected 8) (0 ∷ 0 ∷ 0 ∷ 0 ∷ 1 ∷ [])
    ∷ finds data_length (1 ∷ 0 ∷ 1 ∷ 1 ∷ 1 ∷ [])
    ∷ finds poll_acquire_acl_send_lock (0 ∷ 0 ∷ 1 ∷ 1 ∷ 1 ∷ [])
    ∷ finds (poll_request_to_send 0 1 2) (0 ∷ 0 ∷ 1 ∷ 1 ∷ 1 ∷ [])
    ∷ finds (confirm_sent 2) (0 ∷ 0 ∷ 1 ∷ 1 ∷ 1 ∷ [])
    ∷ finds (has_link_credits 4) (0 ∷ 0 ∷ 1 ∷ 1 ∷ 1 ∷ [])
    ∷ finds (exchange_att_mtu 185) (0 ∷ 0 ∷ 1 ∷ 1 ∷ 1 ∷ [])
    ∷ finds get_att_mtu_handle (1 ∷ 0 ∷ 1 ∷ 1 ∷ 1 ∷ [])
    ∷ finds (negotiate_att_mtu 185) (0 ∷ 0 ∷ 1 ∷ 1 ∷ 1 ∷ [])
    ∷ finds get_stored_att_mtu (0 ∷ 0 ∷ 1 ∷ 1 ∷ 1 ∷ [])
    ∷ finds signal_indication_confirmation (0 ∷ 0 ∷ 1 ∷ 1 ∷ 1 ∷ [])
    ∷ []
