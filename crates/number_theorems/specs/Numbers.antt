-- Which call can answer which number: document 01's table "What a call gives back", with the numbers that 02 adds, call by call; 0
-- where nothing is refused.
-- This file is the statement, `Numbers`. It is proved in Answers.antt. That a row answers each number that is listed, so
-- that none is idle, is computed in the crate answer_rows. Assumes nothing.
use Rattle.std.specs.Prelude.{ℕ, ◌≡◌, Bool, true, false, ◌||◌, List, [], ◌∷◌, eqb}
use Rattle.slot.specs.declared.ConnectionManager.{ConnectionManager}
use Rattle.model.specs.Link.{Op, get_connected_handle, inc_ref, dec_ref, request_disconnect, request_handle_disconnect, withdraw_disconnect, confirm, disconnected, post_handle_event, next, poll_acquire_acl_send_lock, unlock_acl_send, poll_request_to_send, grant_end, confirm_sent, has_link_credits, exchange_att_mtu, get_att_mtu_handle, negotiate_att_mtu, get_stored_att_mtu, acquire_indication_slot, release_indication_slot, signal_indication_confirmation, wait_indication_confirmation}
use Rattle.model.specs.Calls.{Call, on_link, connects, poll_accept_call, get_connection_by_peer_address_call, poll_disconnecting_call, set_link_credits_call, total_lost_call, poll_request_from_pool_call, pool_confirm_sent_call, pool_grant_end_call, grant_confirm, run}
use Rattle.model.specs.History.{new}

abbrev pub is_in : ℕ → List ℕ → Bool
is_in n [] = false
is_in n (m ∷ ms) = eqb n m || is_in n ms

-- a call on a link: 1 by index; 2 or 3 by handle, where no slot fits; then the call's own
abbrev pub numbers_on : Op → List ℕ
numbers_on get_connected_handle = 0 ∷ 2 ∷ 6 ∷ 8 ∷ []
numbers_on inc_ref = 0 ∷ 1 ∷ 6 ∷ 8 ∷ []
numbers_on dec_ref = 0 ∷ 1 ∷ 6 ∷ 8 ∷ []
numbers_on (request_disconnect r) = 0 ∷ 1 ∷ 8 ∷ []
numbers_on (request_handle_disconnect r) = 0 ∷ 8 ∷ []
numbers_on withdraw_disconnect = 0 ∷ 1 ∷ 8 ∷ 16 ∷ []
numbers_on (confirm h v r) = 0 ∷ 1 ∷ 8 ∷ []
numbers_on (disconnected v) = 0 ∷ 2 ∷ 8 ∷ []
numbers_on (post_handle_event e) = 0 ∷ 2 ∷ 4 ∷ 8 ∷ []
numbers_on next = 0 ∷ 1 ∷ 5 ∷ 8 ∷ []
numbers_on poll_acquire_acl_send_lock = 0 ∷ 2 ∷ 5 ∷ 8 ∷ []
numbers_on (unlock_acl_send h v) = 0 ∷ 1 ∷ 8 ∷ []
numbers_on (poll_request_to_send j v n) = 0 ∷ 3 ∷ 5 ∷ 8 ∷ []
numbers_on (grant_end h v n) = 0 ∷ 1 ∷ 7 ∷ 8 ∷ []
numbers_on (confirm_sent n) = 0 ∷ 2 ∷ 7 ∷ 8 ∷ []
numbers_on (has_link_credits n) = 0 ∷ 8 ∷ []
numbers_on (exchange_att_mtu m) = 0 ∷ 8 ∷ []
numbers_on get_att_mtu_handle = 0 ∷ 8 ∷ []
numbers_on (negotiate_att_mtu m) = 0 ∷ 8 ∷ []
numbers_on get_stored_att_mtu = 0 ∷ 8 ∷ []
numbers_on acquire_indication_slot = 0 ∷ 1 ∷ 3 ∷ 5 ∷ 8 ∷ []
numbers_on release_indication_slot = 0 ∷ 1 ∷ 8 ∷ []
numbers_on signal_indication_confirmation = 0 ∷ 8 ∷ []
numbers_on wait_indication_confirmation = 0 ∷ 1 ∷ 3 ∷ 5 ∷ 8 ∷ []

abbrev pub numbers_of : Call → List ℕ
numbers_of (on_link op n) = numbers_on op
numbers_of (connects handle peer role params) = 0 ∷ 2 ∷ 8 ∷ 15 ∷ []
numbers_of (poll_accept_call role peers) = 0 ∷ 5 ∷ 6 ∷ 8 ∷ []
numbers_of (get_connection_by_peer_address_call peer) = 0 ∷ 2 ∷ 6 ∷ 8 ∷ []
numbers_of poll_disconnecting_call = 0 ∷ 5 ∷ 8 ∷ []
numbers_of (set_link_credits_call c) = 0 ∷ 8 ∷ []
numbers_of total_lost_call = 0 ∷ 8 ∷ []
numbers_of (poll_request_from_pool_call handle packets) = 0 ∷ 3 ∷ 5 ∷ 8 ∷ 13 ∷ []
numbers_of (pool_confirm_sent_call handle packets) = 0 ∷ 2 ∷ 8 ∷ 14 ∷ []
numbers_of (pool_grant_end_call g) = 0 ∷ 1 ∷ 2 ∷ 8 ∷ 14 ∷ []
numbers_of (grant_confirm g sent) = 0 ∷ []

abbrev pub numbers_of_new : List ℕ
numbers_of_new = 0 ∷ 8 ∷ []

unfoldable pub Numbers : Type 0
Numbers =
    ((c : Call) (t : ConnectionManager) → is_in (run c t).reply.number (numbers_of c) ≡ true)
    × ((slots packet_mtu packets : ℕ) → is_in (new slots packet_mtu packets).reply.number numbers_of_new ≡ true)
