-- Each answer's number and values, case by case: a map and the code that goes by it can be changed together and still agree, and
-- these lines do not change with them. Fields are named where the answer is a struct. Of events and reasons some stand here; the
-- others are rows of `table_rows`. Assumes nothing.
use Rattle.std.specs.Prelude.{ℕ, ◌≡◌, refl, Bool, true, false, ◌&&◌, List, [], ◌∷◌, ◌++◌, map, eqb, None, Some, Ok, Err}
use Rattle.state.specs.declared.DisconnectReason.TheVariants.{AuthenticationFailure}
use Rattle.event_queue.specs.declared.ConnectionEvent.TheVariants as event
use Rattle.event_queue.specs.declared.PhyKind.TheVariants as phy
use Rattle.slot_call.specs.declared.Ended.TheVariants as ended
use Rattle.hci.specs.declared.HciEvent.{HciEvent}
use Rattle.hci.specs.declared.HciEvent.TheVariants as hci
use Rattle.att_pdu.specs.declared.AttPdu.TheVariants as pdu
use Rattle.att_pdu.specs.declared.AttMessage.TheVariants as att
use Rattle.host_event.specs.declared.EventGives.TheVariants as event_gives
use Rattle.host_att.specs.declared.AttGives.TheVariants as att_gives
use Rattle.model.specs.Answer.{Refusal, Reply, reply_of, no_value, one_value, event_values}
use Rattle.model.specs.Calls.{grant_values}
use Rattle.table_rows.specs.Row.{same}
use Rattle.slot_call.specs.Answer.{ended_values}
use Rattle.poll_disconnecting.specs.Answer.{ticket_values}
use Rattle.poll_acquire_acl_send_lock.specs.Answer.{lock_values}
use Rattle.poll_request_from_pool.specs.Answer.{pool_grant_values}
use Rattle.has_link_credits.specs.Answer.{bit_values}
use Rattle.hci_read.specs.Answer.{read_reply}
use Rattle.completed_packets.specs.Answer.{completed_reply, pair_reply}
use Rattle.att_pdu.specs.Read.{att_read_reply}
use Rattle.wire.specs.Wire.{write_reply}
use Rattle.host_event.specs.Answer.{event_gives_values}
use Rattle.host_att.specs.Answer.{att_gives_values}
use Rattle.roster.specs.Roster.{roster_reply}

-- cases without a value, and their numbers
abbrev numbered : {A : Type 0} → (A → Reply) → List A → List ℕ → Bool
numbered f answers ns = same (map (λ a. (f a).number) answers) ns

-- a case with values: nothing is refused
abbrev valued : Reply → List ℕ → Bool
valued r vs = eqb r.number 0 && same r.values vs

-- ---- cases without a value

abbrev numbers : List Bool
numbers =
    -- new
    numbered (reply_of no_value) (Err Refusal.Setup ∷ Ok tt ∷ []) (8 ∷ 0 ∷ [])
    -- connect
    ∷ numbered (reply_of no_value) (Err Refusal.Setup ∷ Err Refusal.NotFound ∷ Err Refusal.Life ∷ Ok tt ∷ []) (8 ∷ 2 ∷ 15 ∷ 0 ∷ [])
    -- poll_accept
    ∷ numbered (reply_of one_value) (Err Refusal.Setup ∷ Err Refusal.Pending ∷ Err Refusal.Refs ∷ []) (8 ∷ 5 ∷ 6 ∷ [])
    -- get_connected_handle and get_connection_by_peer_address
    ∷ numbered (reply_of one_value) (Err Refusal.Setup ∷ Err Refusal.NotFound ∷ Err Refusal.Refs ∷ []) (8 ∷ 2 ∷ 6 ∷ [])
    -- inc_ref
    ∷ numbered (reply_of no_value) (Err Refusal.Setup ∷ Err Refusal.Index ∷ Err Refusal.Refs ∷ Ok tt ∷ []) (8 ∷ 1 ∷ 6 ∷ 0 ∷ [])
    -- dec_ref
    ∷ numbered (reply_of no_value) (Err Refusal.Setup ∷ Err Refusal.Index ∷ Err Refusal.Refs ∷ Ok tt ∷ []) (8 ∷ 1 ∷ 6 ∷ 0 ∷ [])
    -- request_disconnect
    ∷ numbered (reply_of no_value) (Err Refusal.Setup ∷ Err Refusal.Index ∷ Ok tt ∷ []) (8 ∷ 1 ∷ 0 ∷ [])
    -- request_handle_disconnect
    ∷ numbered (reply_of no_value) (Err Refusal.Setup ∷ Ok tt ∷ []) (8 ∷ 0 ∷ [])
    -- poll_disconnecting
    ∷ numbered (reply_of ticket_values) (Err Refusal.Setup ∷ Err Refusal.Pending ∷ []) (8 ∷ 5 ∷ [])
    -- confirm
    ∷ numbered (reply_of ended_values) (Err Refusal.Setup ∷ Err Refusal.Index ∷ Ok ended.Stale ∷ Ok ended.Done ∷ []) (8 ∷ 1 ∷ 0 ∷ 0 ∷ [])
    -- disconnected
    ∷ numbered (reply_of no_value) (Err Refusal.Setup ∷ Err Refusal.NotFound ∷ Ok tt ∷ []) (8 ∷ 2 ∷ 0 ∷ [])
    -- post_handle_event
    ∷ numbered (reply_of no_value) (Err Refusal.Setup ∷ Err Refusal.NotFound ∷ Err Refusal.OutOfMemory ∷ Ok tt ∷ []) (8 ∷ 2 ∷ 4 ∷ 0 ∷ [])
    -- next
    ∷ numbered (reply_of event_values) (Err Refusal.Setup ∷ Err Refusal.Index ∷ Err Refusal.Pending ∷ []) (8 ∷ 1 ∷ 5 ∷ [])
    -- poll_acquire_acl_send_lock
    ∷ numbered (reply_of lock_values) (Err Refusal.Setup ∷ Err Refusal.NotFound ∷ Err Refusal.Pending ∷ []) (8 ∷ 2 ∷ 5 ∷ [])
    -- unlock_acl_send
    ∷ numbered (reply_of ended_values) (Err Refusal.Setup ∷ Err Refusal.Index ∷ Ok ended.Stale ∷ Ok ended.Done ∷ []) (8 ∷ 1 ∷ 0 ∷ 0 ∷ [])
    -- poll_request_to_send
    ∷ numbered (reply_of grant_values) (Err Refusal.Setup ∷ Err Refusal.Disconnected ∷ Err Refusal.Pending ∷ []) (8 ∷ 3 ∷ 5 ∷ [])
    -- grant_end
    ∷ numbered (reply_of ended_values) (Err Refusal.Setup ∷ Err Refusal.Index ∷ Ok ended.Stale ∷ Err Refusal.Credits ∷ Ok ended.Done ∷ []) (8 ∷ 1 ∷ 0 ∷ 7 ∷ 0 ∷ [])
    -- confirm_sent
    ∷ numbered (reply_of no_value) (Err Refusal.Setup ∷ Err Refusal.NotFound ∷ Err Refusal.Credits ∷ Ok tt ∷ []) (8 ∷ 2 ∷ 7 ∷ 0 ∷ [])
    -- has_link_credits
    ∷ numbered (reply_of bit_values) (Err Refusal.Setup ∷ []) (8 ∷ [])
    -- set_link_credits
    ∷ numbered (reply_of no_value) (Err Refusal.Setup ∷ Ok tt ∷ []) (8 ∷ 0 ∷ [])
    -- total_lost
    ∷ numbered (reply_of one_value) (Err Refusal.Setup ∷ []) (8 ∷ [])
    -- withdraw_disconnect
    ∷ numbered (reply_of no_value) (Err Refusal.Setup ∷ Err Refusal.Index ∷ Err Refusal.Unreferenced ∷ Ok tt ∷ []) (8 ∷ 1 ∷ 16 ∷ 0 ∷ [])
    -- negotiate_att_mtu
    ∷ numbered (reply_of one_value) (Err Refusal.Setup ∷ []) (8 ∷ [])
    -- get_stored_att_mtu
    ∷ numbered (reply_of one_value) (Err Refusal.Setup ∷ []) (8 ∷ [])
    -- poll_request_from_pool
    ∷ numbered (reply_of pool_grant_values) (Err Refusal.Setup ∷ Err Refusal.Disconnected ∷ Err Refusal.Ask ∷ Err Refusal.Pending ∷ []) (8 ∷ 3 ∷ 13 ∷ 5 ∷ [])
    -- pool_confirm_sent
    ∷ numbered (reply_of no_value) (Err Refusal.Setup ∷ Err Refusal.NotFound ∷ Err Refusal.Held ∷ Ok tt ∷ []) (8 ∷ 2 ∷ 14 ∷ 0 ∷ [])
    -- pool_grant_end
    ∷ numbered (reply_of ended_values) (Err Refusal.Setup ∷ Err Refusal.Index ∷ Ok ended.Stale ∷ Err Refusal.NotFound ∷ Err Refusal.Held ∷ Ok ended.Done ∷ [])
    (8 ∷ 1 ∷ 0 ∷ 2 ∷ 14 ∷ 0 ∷ [])
    -- exchange_att_mtu
    ∷ numbered (reply_of one_value) (Err Refusal.Setup ∷ []) (8 ∷ [])
    -- get_att_mtu_handle
    ∷ numbered (reply_of one_value) (Err Refusal.Setup ∷ []) (8 ∷ [])
    -- acquire_indication_slot
    ∷ numbered (reply_of no_value) (Err Refusal.Setup ∷ Err Refusal.Index ∷ Err Refusal.Disconnected ∷ Err Refusal.Pending ∷ Ok tt ∷ []) (8 ∷ 1 ∷ 3 ∷ 5 ∷ 0 ∷ [])
    -- release_indication_slot
    ∷ numbered (reply_of no_value) (Err Refusal.Setup ∷ Err Refusal.Index ∷ Ok tt ∷ []) (8 ∷ 1 ∷ 0 ∷ [])
    -- signal_indication_confirmation
    ∷ numbered (reply_of no_value) (Err Refusal.Setup ∷ Ok tt ∷ []) (8 ∷ 0 ∷ [])
    -- wait_indication_confirmation
    ∷ numbered (reply_of no_value) (Err Refusal.Setup ∷ Err Refusal.Index ∷ Err Refusal.Disconnected ∷ Err Refusal.Pending ∷ Ok tt ∷ []) (8 ∷ 1 ∷ 3 ∷ 5 ∷ 0 ∷ [])
    -- messages, and the roster
    ∷ numbered read_reply (None ∷ []) (9 ∷ [])
    ∷ numbered completed_reply (None ∷ []) (9 ∷ [])
    ∷ numbered pair_reply (None ∷ []) (9 ∷ [])
    ∷ numbered att_read_reply (None ∷ []) (9 ∷ [])
    ∷ numbered write_reply (Err Refusal.Packet ∷ Err Refusal.Space ∷ []) (9 ∷ 10 ∷ [])
    ∷ numbered (reply_of event_gives_values) (Err Refusal.Packet ∷ Err Refusal.Setup ∷ Err Refusal.NotFound ∷ Err Refusal.OutOfMemory ∷ Err Refusal.Life ∷ Ok event_gives.Done ∷ []) (9 ∷ 8 ∷ 2 ∷ 4 ∷ 15 ∷ 0 ∷ [])
    ∷ numbered (reply_of att_gives_values) (Err Refusal.Packet ∷ Err Refusal.Setup ∷ Ok att_gives.Done ∷ []) (9 ∷ 8 ∷ 0 ∷ [])
    ∷ numbered roster_reply (Err Refusal.Setup ∷ Err Refusal.Space ∷ []) (8 ∷ 10 ∷ [])
    ∷ []

-- ---- cases with values: nothing is refused

abbrev values : List Bool
values =
    -- poll_accept
    valued (reply_of one_value (Ok 7)) (7 ∷ [])
    -- get_connected_handle and get_connection_by_peer_address
    ∷ valued (reply_of one_value (Ok 7)) (7 ∷ [])
    -- poll_disconnecting
    ∷ valued (reply_of ticket_values (Ok (record { index = 1; handle = 2; reason = AuthenticationFailure; life = 3 }))) (1 ∷ 2 ∷ 0x05 ∷ 3 ∷ [])
    -- next
    ∷ valued (reply_of event_values (Ok (event.PhyUpdated phy.Le2M phy.LeCoded))) (1 ∷ 2 ∷ 3 ∷ [])
    ∷ valued (reply_of event_values (Ok (event.DataLengthUpdated 5 6 7 8))) (4 ∷ 5 ∷ 6 ∷ 7 ∷ 8 ∷ [])
    -- poll_acquire_acl_send_lock
    ∷ valued (reply_of lock_values (Ok (record { handle = 7; index = 8; life = 9 }))) (7 ∷ 8 ∷ 9 ∷ [])
    -- poll_request_to_send
    ∷ valued (reply_of grant_values (Ok (record { handle = 1; packets = 2; index = 3; life = 4 }))) (1 ∷ 2 ∷ 3 ∷ 4 ∷ [])
    -- unlock_acl_send; done is not stale
    ∷ valued (reply_of ended_values (Ok ended.Stale)) (1 ∷ [])
    ∷ valued (reply_of ended_values (Ok ended.Done)) []
    -- grant_end; done is not stale
    ∷ valued (reply_of ended_values (Ok ended.Stale)) (1 ∷ [])
    ∷ valued (reply_of ended_values (Ok ended.Done)) []
    -- confirm; done is not stale
    ∷ valued (reply_of ended_values (Ok ended.Stale)) (1 ∷ [])
    ∷ valued (reply_of ended_values (Ok ended.Done)) []
    -- has_link_credits
    ∷ valued (reply_of bit_values (Ok true)) (1 ∷ [])
    ∷ valued (reply_of bit_values (Ok false)) (0 ∷ [])
    -- total_lost
    ∷ valued (reply_of one_value (Ok 5)) (5 ∷ [])
    -- negotiate_att_mtu
    ∷ valued (reply_of one_value (Ok 24)) (24 ∷ [])
    -- get_stored_att_mtu
    ∷ valued (reply_of one_value (Ok 24)) (24 ∷ [])
    -- poll_request_from_pool
    ∷ valued (reply_of pool_grant_values (Ok (record { handle = 1; packets = 2; index = 3; life = 4 }))) (1 ∷ 2 ∷ 3 ∷ 4 ∷ [])
    -- pool_confirm_sent
    ∷ valued (reply_of no_value (Ok tt)) []
    -- pool_grant_end
    ∷ valued (reply_of ended_values (Ok ended.Stale)) (1 ∷ [])
    ∷ valued (reply_of ended_values (Ok ended.Done)) []
    -- exchange_att_mtu
    ∷ valued (reply_of one_value (Ok 7)) (7 ∷ [])
    -- get_att_mtu_handle
    ∷ valued (reply_of one_value (Ok 7)) (7 ∷ [])
    -- messages, and the roster
    ∷ valued (read_reply (Some disconnection)) (0x05 ∷ 1 ∷ 2 ∷ 3 ∷ [])
    ∷ valued (read_reply (Some connection)) (0x3E ∷ 0x01 ∷ 1 ∷ 2 ∷ 3 ∷ 4 ∷ 5 ∷ 6 ∷ 7 ∷ 8 ∷ 9 ∷ 10 ∷ 11 ∷ 12 ∷ 13 ∷ 14 ∷ [])
    ∷ valued (read_reply (Some update)) (0x3E ∷ 0x03 ∷ 1 ∷ 2 ∷ 3 ∷ 4 ∷ 5 ∷ [])
    ∷ valued (completed_reply (Some 7)) (7 ∷ [])
    ∷ valued (pair_reply (Some (record { handle = 1; num_completed_packets = 2 }))) (1 ∷ 2 ∷ [])
    ∷ valued (att_read_reply (Some (att.Pdu (pdu.ExchangeMtuReq 7)))) (0x02 ∷ 7 ∷ [])
    ∷ valued (att_read_reply (Some (att.Pdu (pdu.ExchangeMtuRsp 7)))) (0x03 ∷ 7 ∷ [])
    ∷ valued (att_read_reply (Some (att.Pdu pdu.HandleValueCfm))) (0x1E ∷ [])
    ∷ valued (att_read_reply (Some (att.HandleValueInd 7))) (0x1D ∷ 7 ∷ [])
    ∷ valued (write_reply (Ok 7)) (7 ∷ [])
    ∷ valued (reply_of event_gives_values (Ok (event_gives.Completed (record { applied = 2; skipped = 1 })))) (2 ∷ 1 ∷ [])
    ∷ valued (reply_of att_gives_values (Ok (att_gives.Mtu 7))) (7 ∷ [])
    ∷ valued (reply_of att_gives_values (Ok (att_gives.HandleValueInd 7))) (0x1D ∷ 7 ∷ [])
    ∷ valued (roster_reply (Ok 7)) (7 ∷ [])
    ∷ []
  where
    disconnection : HciEvent
    disconnection = hci.DisconnectionComplete (record { status = 1; handle = 2; reason = 3 })

    connection : HciEvent
    connection =
        hci.LeConnectionComplete
        (record {
          status = 1;
          handle = 2;
          role = 3;
          peer_addr_kind = 4;
          peer_addr = record { 0 = 5; 1 = 6; 2 = 7; 3 = 8; 4 = 9; 5 = 10 };
          conn_interval = 11;
          peripheral_latency = 12;
          supervision_timeout = 13;
          central_clock_accuracy = 14;
        })

    update : HciEvent
    update =
        hci.LeConnectionUpdateComplete
        (record { status = 1; handle = 2; conn_interval = 3; peripheral_latency = 4; supervision_timeout = 5 })

-- ---- the check

abbrev all_true : List Bool → Bool
all_true [] = true
all_true (b ∷ bs) = b && all_true bs

pub answers_pinned : all_true (numbers ++ values) ≡ true
answers_pinned = refl
