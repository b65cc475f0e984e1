-- Rows from a fresh table for document 01's "wrong turns close by" and for what a swapped table would get wrong. Assumes nothing.
use Rattle.std.specs.Prelude.{List, [], ◌∷◌, ◌++◌, map}
use Rattle.state.specs.declared.DisconnectReason.TheVariants as reason
use Rattle.slot.specs.declared.LeConnRole.TheVariants as role
use Rattle.slot.specs.declared.Address.{Address}
use Rattle.event_queue.specs.declared.PhyKind.TheVariants as phy
use Rattle.event_queue.specs.declared.ConnectionEvent.TheVariants as event
use Rattle.slot.specs.declared.Woken.TheVariants.{Nobody, Central, Peripheral, Disconnect, LinkCredit, AclSendLock, IndicationSlot, IndicationCfm, Link}
use Rattle.model.specs.Find.{slot_at}
use Rattle.model.specs.Link.{get_connected_handle, inc_ref, request_disconnect, request_handle_disconnect, confirm, disconnected, post_handle_event, next, poll_acquire_acl_send_lock, unlock_acl_send, poll_request_to_send, grant_end, confirm_sent, has_link_credits, exchange_att_mtu, get_att_mtu_handle, acquire_indication_slot, release_indication_slot, signal_indication_confirmation, wait_indication_confirmation}
use Rattle.model.specs.Calls.{on_link, connects, poll_accept_call, get_connection_by_peer_address_call, poll_disconnecting_call, set_link_credits_call, poll_request_from_pool_call, pool_confirm_sent_call, grant_confirm}
use Rattle.table_rows.specs.Row.{gives, shows, Row, fresh, state_values, subrating_values}
use Rattle.table_rows.specs.Shared.{peer, near_peers, params, connect_to, accept, opened, quiet, data_length, params_of, counts, flags, state0, by_index, all_refused}

abbrev pub others : List Row
others =
    -- `disconnected` finds a slot that requests, and one that is disconnecting
    fresh 2 251 4
    (opened
    (gives (on_link (request_disconnect reason.AuthenticationFailure) 0) 0 [] Disconnect
    ∷ gives (on_link (disconnected 5) 64) 0 [] (Link 0)
    ∷ shows state0 (0 ∷ [])
    ∷ gives (connect_to 65 2) 0 [] Peripheral
    ∷ gives accept 0 (1 ∷ []) Nobody
    ∷ gives (on_link (request_handle_disconnect reason.UnacceptableConnParameters) 65) 0 [] Disconnect
    -- the ticket's reason, not the slot's
    ∷ gives (on_link (confirm 65 1 reason.UnsupportedRemoteFeature) 1) 0 [] Nobody
    ∷ shows (λ t. state_values (slot_at t 1).state) (2 ∷ 0x1A ∷ [])
    ∷ gives (on_link (disconnected 5) 65) 0 [] (Link 1)
    ∷ gives (on_link (disconnected 5) 65) 2 [] Nobody
    ∷ []))
    -- no floor in the exchange; the smaller of the two
    ∷ fresh 1 251 4
    (opened
    (gives (on_link (exchange_att_mtu 5) 64) 0 (5 ∷ []) Nobody
    ∷ gives (on_link get_att_mtu_handle 64) 0 (5 ∷ []) Nobody
    ∷ gives (on_link (exchange_att_mtu 500) 64) 0 (247 ∷ []) Nobody
    ∷ gives (on_link get_att_mtu_handle 65) 0 (247 ∷ []) Nobody
    ∷ []))
    -- a full queue loses the Disconnected event, and is no refusal; events come out oldest first
    ∷ fresh 1 251 4
    (opened
    (gives (on_link (post_handle_event (event.SubratingParamsUpdated 2 1 9 50000)) 64) 0 [] Nobody
    ∷ shows (λ t. subrating_values (slot_at t 0).subrating_params) (2 ∷ 9 ∷ [])
    ∷ shows (params_of 0) (30000 ∷ 1 ∷ 50000 ∷ [])
    ∷ quiet data_length 64
    ∷ quiet data_length 64
    ∷ quiet data_length 64
    ∷ gives (on_link (disconnected 8) 64) 0 [] (Link 0)
    ∷ shows counts (1 ∷ 4 ∷ 0 ∷ 1 ∷ [])
    ∷ gives (on_link next 0) 0 (3 ∷ 2 ∷ 1 ∷ 9 ∷ 50000 ∷ []) Nobody
    ∷ gives (on_link next 0) 0 (4 ∷ 1 ∷ 2 ∷ 3 ∷ 4 ∷ []) Nobody
    ∷ gives (on_link next 1) 1 [] Nobody
    ∷ []))
    -- the pair: kept with the interval, dropped with another, and none for a factor of 1
    ∷ fresh 1 251 4
    (opened
    (gives (on_link (post_handle_event (event.SubratingParamsUpdated 2 1 9 50000)) 64) 0 [] Nobody
    ∷ gives (on_link (post_handle_event (event.ConnectionParamsUpdated 5 30000 60000)) 64) 0 [] Nobody
    ∷ gives (on_link (post_handle_event (event.ConnectionRateChanged 3 1 4 7500 70000)) 64) 0 [] Nobody
    ∷ shows (λ t. subrating_values (slot_at t 0).subrating_params) (2 ∷ 9 ∷ [])
    ∷ shows (params_of 0) (30000 ∷ 5 ∷ 60000 ∷ [])
    ∷ gives (on_link (post_handle_event (event.ConnectionParamsUpdated 5 7500 60000)) 64) 0 [] Nobody
    ∷ shows (λ t. subrating_values (slot_at t 0).subrating_params) []
    ∷ []))
    ∷ fresh 1 251 4
    (opened
    (gives (on_link (post_handle_event (event.SubratingParamsUpdated 2 1 9 50000)) 64) 0 [] Nobody
    ∷ gives (on_link (post_handle_event (event.SubratingParamsUpdated 1 1 9 50000)) 64) 0 [] Nobody
    ∷ shows (λ t. subrating_values (slot_at t 0).subrating_params) []
    ∷ []))
    -- an event that is queued is not lost; nothing queued: 5
    ∷ fresh 1 251 4
    (opened
    (gives (on_link (disconnected 8) 64) 0 [] (Link 0)
    ∷ shows counts (0 ∷ 1 ∷ 0 ∷ 1 ∷ [])
    ∷ gives (on_link next 0) 0 (0 ∷ 8 ∷ []) Nobody
    ∷ gives (on_link next 0) 5 [] Nobody
    ∷ shows counts (0 ∷ 0 ∷ 0 ∷ 1 ∷ [])
    ∷ []))
    -- the lock: given out once, then 5 and blocked_sends, then freed
    ∷ fresh 1 251 4
    (opened
    (gives (on_link poll_acquire_acl_send_lock 64) 0 (64 ∷ 0 ∷ 1 ∷ []) Nobody
    ∷ gives (on_link poll_acquire_acl_send_lock 64) 5 [] Nobody
    ∷ shows counts (0 ∷ 0 ∷ 1 ∷ 1 ∷ [])
    ∷ gives (on_link (unlock_acl_send 64 1) 0) 0 [] (AclSendLock 0)
    ∷ quiet (unlock_acl_send 64 1) 0
    ∷ gives (on_link poll_acquire_acl_send_lock 65) 2 [] Nobody
    ∷ gives (on_link (poll_request_to_send 0 1 0) 65) 3 [] Nobody
    ∷ gives (on_link (poll_request_to_send 0 1 0) 64) 0 (64 ∷ 0 ∷ 0 ∷ 1 ∷ []) Nobody
    ∷ []))
    -- credits: a sum above 4,294,967,295 is 7
    ∷ fresh 1 251 4
    (gives (set_link_credits_call 4294967295) 0 [] Nobody
    ∷ opened
    (gives (on_link (confirm_sent 1) 64) 7 [] Nobody
    ∷ gives (on_link (grant_end 64 1 1) 0) 7 [] Nobody
    ∷ quiet (grant_end 64 1 0) 0
    ∷ gives (on_link (confirm_sent 0) 64) 0 [] (LinkCredit 0)
    ∷ gives (on_link (confirm_sent 1) 65) 2 [] Nobody
    ∷ gives (on_link (has_link_credits 4294967295) 64) 0 (1 ∷ []) Nobody
    ∷ gives (on_link (has_link_credits 0) 65) 0 (0 ∷ []) Nobody
    ∷ []))
    -- granted 2, one packet of them completed and the other given back: the credits are those at `connect`
    ∷ fresh 1 251 4
    (gives (set_link_credits_call 3) 0 [] Nobody
    ∷ opened
    (gives (on_link (poll_request_to_send 0 1 2) 64) 0 (64 ∷ 2 ∷ 0 ∷ 1 ∷ []) Nobody
    ∷ gives (grant_confirm (record { handle = 64; packets = 2; index = 0; life = 1 }) 1) 0 (64 ∷ 1 ∷ 0 ∷ 1 ∷ []) Nobody
    ∷ gives (on_link (confirm_sent 1) 64) 0 [] (LinkCredit 0)
    ∷ gives (on_link (grant_end 64 1 1) 0) 0 [] (LinkCredit 0)
    ∷ shows (λ t. (slot_at t 0).link_credits ∷ []) (3 ∷ [])
    ∷ []))
    -- indications: one in flight; confirmed is seen once; 3 on a closed slot
    ∷ fresh 1 251 4
    (opened
    (quiet acquire_indication_slot 0
    ∷ gives (on_link acquire_indication_slot 0) 5 [] Nobody
    ∷ gives (on_link wait_indication_confirmation 0) 5 [] Nobody
    ∷ gives (on_link signal_indication_confirmation 64) 0 [] (IndicationCfm 0)
    ∷ shows flags (0 ∷ 1 ∷ 1 ∷ [])
    ∷ quiet wait_indication_confirmation 0
    ∷ shows flags (0 ∷ 1 ∷ 0 ∷ [])
    ∷ gives (on_link signal_indication_confirmation 64) 0 [] (IndicationCfm 0)
    ∷ gives (on_link release_indication_slot 0) 0 [] (IndicationSlot 0)
    ∷ shows flags (0 ∷ 0 ∷ 0 ∷ [])
    ∷ gives (on_link (disconnected 8) 64) 0 [] (Link 0)
    ∷ gives (on_link acquire_indication_slot 0) 3 [] Nobody
    ∷ gives (on_link wait_indication_confirmation 0) 3 [] Nobody
    ∷ gives (on_link acquire_indication_slot 1) 1 [] Nobody
    ∷ []))
    -- accept and the look-ups: the role, the list of peers, the lowest that fits
    ∷ fresh 2 251 4
    (gives accept 5 [] Nobody
    ∷ gives (connects 64 (peer 1) role.Central params) 0 [] Central
    ∷ gives accept 5 [] Nobody
    ∷ gives (connect_to 65 2) 0 [] Peripheral
    ∷ gives (poll_accept_call role.Peripheral (peer 1 ∷ [])) 5 [] Nobody
    ∷ gives (poll_accept_call role.Peripheral (peer 1 ∷ peer 2 ∷ [])) 0 (1 ∷ []) Nobody
    ∷ gives (poll_accept_call role.Central []) 0 (0 ∷ []) Nobody
    ∷ gives (on_link get_connected_handle 65) 0 (1 ∷ []) Nobody
    ∷ gives (on_link get_connected_handle 66) 2 [] Nobody
    ∷ gives (get_connection_by_peer_address_call (peer 2)) 0 (1 ∷ []) Nobody
    ∷ gives (get_connection_by_peer_address_call (peer 3)) 2 [] Nobody
    ∷ quiet inc_ref 0
    ∷ shows (λ t. (slot_at t 0).refcount ∷ (slot_at t 1).refcount ∷ []) (2 ∷ 3 ∷ [])
    ∷ gives poll_disconnecting_call 5 [] Nobody
    ∷ [])
    -- a role and a peer that differ in one place only are others
    ∷ fresh 1 251 4
    (gives (connect_to 64 1) 0 [] Peripheral
    ∷ gives (poll_accept_call role.Central []) 5 [] Nobody
    ∷ gives (poll_accept_call role.Peripheral near_peers) 5 [] Nobody
    ∷ gives (poll_accept_call role.Peripheral (near_peers ++ (peer 1 ∷ []))) 0 (0 ∷ []) Nobody
    ∷ (all_refused 2 (map (λ (a : Address). get_connection_by_peer_address_call a) near_peers)
    ++ (gives (get_connection_by_peer_address_call (peer 1)) 0 (0 ∷ []) Nobody ∷ [])))
    -- a slot that requests may acquire; `disconnected` clears the lock, both flags and blocked_sends
    ∷ fresh 1 251 4
    (opened
    (gives (on_link poll_acquire_acl_send_lock 64) 0 (64 ∷ 0 ∷ 1 ∷ []) Nobody
    ∷ gives (on_link poll_acquire_acl_send_lock 64) 5 [] Nobody
    ∷ gives (on_link (request_disconnect reason.AuthenticationFailure) 0) 0 [] Disconnect
    ∷ quiet acquire_indication_slot 0
    ∷ shows flags (1 ∷ 1 ∷ 0 ∷ [])
    ∷ gives (on_link (disconnected 8) 64) 0 [] (Link 0)
    ∷ shows flags (0 ∷ 0 ∷ 0 ∷ [])
    ∷ shows counts (0 ∷ 1 ∷ 0 ∷ 1 ∷ [])
    ∷ []))
    ∷ fresh 1 251 4
    (opened
    (gives (on_link signal_indication_confirmation 64) 0 [] (IndicationCfm 0)
    ∷ shows flags (0 ∷ 0 ∷ 1 ∷ [])
    ∷ gives (on_link (disconnected 8) 64) 0 [] (Link 0)
    ∷ shows flags (0 ∷ 0 ∷ 0 ∷ [])
    ∷ []))
    -- an exchange on no live slot is not capped; none stored is 23, whatever the default
    ∷ fresh 1 251 4
    (gives (on_link (exchange_att_mtu 500) 64) 0 (500 ∷ []) Nobody
    ∷ opened (gives (on_link get_att_mtu_handle 64) 0 (23 ∷ []) Nobody ∷ []))
    ∷ fresh 1 4 4
    (opened
    (gives (on_link (exchange_att_mtu 30) 64) 0 (23 ∷ []) Nobody
    ∷ shows (λ t. (slot_at t 0).att_mtu ∷ []) (0 ∷ [])
    ∷ []))
    -- a ticket for a slot that does not ask does nothing; one credit too few is no
    ∷ fresh 1 251 4
    (gives (set_link_credits_call 3) 0 [] Nobody
    ∷ opened
    (quiet (confirm 64 1 reason.AuthenticationFailure) 0
    ∷ shows state0 (4 ∷ [])
    ∷ gives (on_link (has_link_credits 3) 64) 0 (1 ∷ []) Nobody
    ∷ gives (on_link (has_link_credits 4) 64) 0 (0 ∷ []) Nobody
    ∷ []))
    -- 1 from an index that is not below the count
    ∷ fresh 2 251 4 (all_refused 1 (by_index 2 ++ by_index 255))
    -- no slot of the handle is open: fresh slots have handle 0
    ∷ fresh 2 251 4
    (gives (on_link get_connected_handle 0) 2 [] Nobody
    ∷ quiet (request_handle_disconnect reason.AuthenticationFailure) 0
    ∷ gives (on_link (disconnected 8) 0) 2 [] Nobody
    ∷ gives (on_link data_length 0) 2 [] Nobody
    ∷ gives (on_link poll_acquire_acl_send_lock 0) 2 [] Nobody
    ∷ gives (on_link (poll_request_to_send 0 1 0) 0) 3 [] Nobody
    ∷ gives (on_link (confirm_sent 1) 0) 2 [] Nobody
    ∷ gives (on_link (has_link_credits 0) 0) 0 (0 ∷ []) Nobody
    ∷ gives (on_link (exchange_att_mtu 185) 0) 0 (185 ∷ []) Nobody
    ∷ gives (on_link get_att_mtu_handle 0) 0 (247 ∷ []) Nobody
    ∷ quiet signal_indication_confirmation 0
    ∷ gives (poll_request_from_pool_call 0 1) 3 [] Nobody
    ∷ gives (pool_confirm_sent_call 0 0) 2 [] Nobody
    ∷ [])
    -- the values of each kind of event, in the order of the Rust's fields
    ∷ fresh 1 251 4
    (opened
    (quiet (post_handle_event (event.PhyUpdated phy.Le2M phy.LeCoded)) 64
    ∷ quiet (post_handle_event (event.PhyUpdated phy.Le1M phy.Le2M)) 64
    ∷ quiet (post_handle_event (event.ConnectionParamsUpdated 3 7500 100000)) 64
    ∷ quiet (post_handle_event (event.ConnectionRateChanged 2 4 5 8750 200000)) 64
    ∷ gives (on_link next 0) 0 (1 ∷ 2 ∷ 3 ∷ []) Nobody
    ∷ gives (on_link next 0) 0 (1 ∷ 1 ∷ 2 ∷ []) Nobody
    ∷ gives (on_link next 0) 0 (2 ∷ 7500 ∷ 3 ∷ 100000 ∷ []) Nobody
    ∷ gives (on_link next 0) 0 (5 ∷ 8750 ∷ 2 ∷ 4 ∷ 5 ∷ 200000 ∷ []) Nobody
    ∷ []))
    ∷ []
