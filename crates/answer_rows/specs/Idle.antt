-- No number of the tables in `Numbers.antt` (of `model_theorems` and `message_theorems`) is idle: each that is listed for a kind of
-- call or message is answered by a call or message of that kind in some row. Assumes nothing.
use Rattle.std.specs.Prelude.{ℕ, ◌≡◌, refl, Bool, true, false, cond, ◌&&◌, ◌||◌, List, [], ◌∷◌, ◌++◌, map, eqb}
use Rattle.std.proofs.Math.Option.{Option, none, some}
use Rattle.state.specs.declared.DisconnectReason.TheVariants.{AuthenticationFailure}
use Rattle.slot.specs.declared.LeConnRole.TheVariants.{Peripheral}
use Rattle.slot.specs.declared.ConnectionManager.{ConnectionManager}
use Rattle.event_queue.specs.declared.ConnectionEvent.TheVariants.{Disconnected}
use Rattle.model.specs.Answer.{Reply}
use Rattle.model.specs.Find.{well_formed}
use Rattle.model.proofs.Laws.{either}
use Rattle.model.specs.Link.{Op, get_connected_handle, inc_ref, dec_ref, request_disconnect, request_handle_disconnect, withdraw_disconnect, confirm, disconnected, post_handle_event, next, poll_acquire_acl_send_lock, unlock_acl_send, poll_request_to_send, grant_end, confirm_sent, has_link_credits, exchange_att_mtu, get_att_mtu_handle, negotiate_att_mtu, get_stored_att_mtu, acquire_indication_slot, release_indication_slot, signal_indication_confirmation, wait_indication_confirmation}
use Rattle.model.specs.Calls.{Call, on_link, poll_accept_call, get_connection_by_peer_address_call, poll_disconnecting_call, set_link_credits_call, total_lost_call, poll_request_from_pool_call, pool_confirm_sent_call, pool_grant_end_call, connects, grant_confirm}
use Rattle.hci.specs.declared.HciEvent.{HciEvent}
use Rattle.hci.specs.declared.HciEvent.TheVariants.{DisconnectionComplete, LeConnectionComplete, LeConnectionUpdateComplete}
use Rattle.hci.specs.Read.{event_in}
use Rattle.completed_packets.specs.Format.{Pair, handles_fit}
use Rattle.completed_packets.specs.Read.{raw_pairs, completed_in}
use Rattle.limits.specs.Limits.{within}
use Rattle.att_pdu.specs.Format.{Message, exchange_mtu_req, exchange_mtu_rsp, handle_value_ind, handle_value_cfm}
use Rattle.att_pdu.specs.Read.{message_in}
use Rattle.roster.specs.Roster.{roster_of, room_for}
use Rattle.number_theorems.specs.Numbers.{is_in, numbers_of, numbers_of_new}
use Rattle.message_theorems.specs.Numbers.{numbers_as, att_numbers_as}
use Rattle.table_rows.specs.Row.{Item, gives, shows, leaves, Row, fresh, from, refused, finds, shuffled}
use Rattle.table_rows.specs.Shared.{peer, connect_to}
use Rattle.all_rows.specs.Case.{Case, table, reads, counts, pair, reads_att, receives, receives_att, wakes, lists, enters, writes}
use Rattle.all_rows.specs.Starred.{cases}

-- ---- the roster's numbers

abbrev pub numbers_of_roster : List ℕ
numbers_of_roster = 0 ∷ 8 ∷ 10 ∷ []

pub roster_in : (t : ConnectionManager) (out : List ℕ) → is_in (roster_of t out).number numbers_of_roster ≡ true
roster_in t out =
    either (λ (r : Reply). is_in r.number numbers_of_roster ≡ true) (well_formed t) _ _
    (either (λ (r : Reply). is_in r.number numbers_of_roster ≡ true) (room_for t out) _ _ refl refl)
    refl

-- ---- kinds, numbered

abbrev kind_on : Op → ℕ
kind_on get_connected_handle = 0
kind_on inc_ref = 1
kind_on dec_ref = 2
kind_on (request_disconnect r) = 3
kind_on (request_handle_disconnect r) = 4
kind_on (confirm h v r) = 5
kind_on (disconnected v) = 6
kind_on (post_handle_event e) = 7
kind_on next = 8
kind_on poll_acquire_acl_send_lock = 9
kind_on (unlock_acl_send h v) = 10
kind_on (poll_request_to_send j v n) = 11
kind_on (grant_end h v n) = 12
kind_on (confirm_sent n) = 13
kind_on (has_link_credits n) = 14
kind_on (exchange_att_mtu m) = 15
kind_on get_att_mtu_handle = 16
kind_on acquire_indication_slot = 17
kind_on release_indication_slot = 18
kind_on signal_indication_confirmation = 19
kind_on wait_indication_confirmation = 20
kind_on withdraw_disconnect = 40
kind_on (negotiate_att_mtu m) = 41
kind_on get_stored_att_mtu = 42

abbrev kind_of : Call → ℕ
kind_of (on_link op n) = kind_on op
kind_of (connects handle peer role params) = 21
kind_of (poll_accept_call role peers) = 22
kind_of (get_connection_by_peer_address_call peer) = 23
kind_of poll_disconnecting_call = 24
kind_of (set_link_credits_call credits) = 25
kind_of (grant_confirm g sent) = 26
kind_of total_lost_call = 39
kind_of (poll_request_from_pool_call handle packets) = 43
kind_of (pool_confirm_sent_call handle packets) = 44
kind_of (pool_grant_end_call g) = 45

abbrev kind_of_new : ℕ
kind_of_new = 27

-- of an event by what it is read as
abbrev kind_as : Option HciEvent → Option (List Pair) → ℕ
kind_as (some (DisconnectionComplete e)) ps = 28
kind_as (some (LeConnectionComplete e)) ps = 29
kind_as (some (LeConnectionUpdateComplete e)) ps = 30
kind_as none (some ps) = 31
kind_as none none = 32

abbrev att_kind_as : Option Message → ℕ
att_kind_as (some (exchange_mtu_req mtu)) = 33
att_kind_as (some (exchange_mtu_rsp mtu)) = 34
att_kind_as (some (handle_value_ind attribute value)) = 35
att_kind_as (some handle_value_cfm) = 36
att_kind_as none = 37

abbrev kind_of_roster : ℕ
kind_of_roster = 38

-- ---- what the rows answer: kind and number. `starred_hold` says that they do.

abbrev answered_in : List Item → List (ℕ × ℕ)
answered_in [] = []
answered_in (gives c n vs w ∷ is) = (kind_of c, n) ∷ answered_in is
answered_in (shows f vs ∷ is) = answered_in is
answered_in (leaves u ∷ is) = answered_in is

abbrev answered_by : Row → List (ℕ × ℕ)
answered_by (fresh slots packet_mtu packets is) = (kind_of_new, 0) ∷ answered_in is
answered_by (from t is) = answered_in is
answered_by (refused slots packet_mtu packets n) = (kind_of_new, n) ∷ []
answered_by (finds op is) = []
answered_by (shuffled slots packet_mtu packets calls es given orders) = []

abbrev answered_as : Case → List (ℕ × ℕ)
answered_as (table r) = answered_by r
answered_as (reads s n vs) = []
answered_as (counts s n vs) = []
answered_as (pair s i n vs) = []
answered_as (reads_att s n vs) = []
answered_as (receives t s n vs ws f shown) = (kind_as (event_in s) (completed_in s), n) ∷ []
answered_as (receives_att t h s n vs ws f shown) = (att_kind_as (message_in s), n) ∷ []
answered_as (wakes ws places) = []
answered_as (lists t out n vs) = (kind_of_roster, n) ∷ []
answered_as (enters t es) = []
answered_as (writes t before after) = []

abbrev answered : List Case → List (ℕ × ℕ)
answered [] = []
answered (c ∷ cs) = answered_as c ++ answered cs

-- ---- what the tables list: each kind with its numbers. Arguments are of no account.

abbrev listed : List (ℕ × List ℕ)
listed =
    of (on_link get_connected_handle 0)
    ∷ of (on_link inc_ref 0)
    ∷ of (on_link dec_ref 0)
    ∷ of (on_link (request_disconnect AuthenticationFailure) 0)
    ∷ of (on_link (request_handle_disconnect AuthenticationFailure) 0)
    ∷ of (on_link (confirm 0 0 AuthenticationFailure) 0)
    ∷ of (on_link (disconnected 0) 0)
    ∷ of (on_link (post_handle_event (Disconnected 0)) 0)
    ∷ of (on_link next 0)
    ∷ of (on_link poll_acquire_acl_send_lock 0)
    ∷ of (on_link (unlock_acl_send 0 0) 0)
    ∷ of (on_link (poll_request_to_send 0 0 0) 0)
    ∷ of (on_link (grant_end 0 0 0) 0)
    ∷ of (on_link (confirm_sent 0) 0)
    ∷ of (on_link (has_link_credits 0) 0)
    ∷ of (on_link (exchange_att_mtu 0) 0)
    ∷ of (on_link get_att_mtu_handle 0)
    ∷ of (on_link acquire_indication_slot 0)
    ∷ of (on_link release_indication_slot 0)
    ∷ of (on_link signal_indication_confirmation 0)
    ∷ of (on_link wait_indication_confirmation 0)
    ∷ of (connect_to 0 0)
    ∷ of (poll_accept_call Peripheral [])
    ∷ of (get_connection_by_peer_address_call (peer 0))
    ∷ of poll_disconnecting_call
    ∷ of (set_link_credits_call 0)
    ∷ of (grant_confirm (record { handle = 0; packets = 0; index = 0; life = 0 }) 0)
    ∷ (kind_of_new, numbers_of_new)
    ∷ read (some (DisconnectionComplete (record { status = 0; handle = 0; reason = 0 }))) none
    ∷ read
    (some
    (LeConnectionComplete
    (record {
      status = 0;
      handle = 0;
      role = 0;
      peer_addr_kind = 0;
      peer_addr = (peer 0).addr;
      conn_interval = 0;
      peripheral_latency = 0;
      supervision_timeout = 0;
      central_clock_accuracy = 0;
    })))
    none
    ∷ read
    (some
    (LeConnectionUpdateComplete
    (record { status = 0; handle = 0; conn_interval = 0; peripheral_latency = 0; supervision_timeout = 0 })))
    none
    ∷ read none (some [])
    ∷ read none none
    ∷ att (some (exchange_mtu_req 0))
    ∷ att (some (exchange_mtu_rsp 0))
    ∷ att (some (handle_value_ind 0 []))
    ∷ att (some handle_value_cfm)
    ∷ att none
    ∷ (kind_of_roster, numbers_of_roster)
    ∷ of total_lost_call
    ∷ of (on_link withdraw_disconnect 0)
    ∷ of (on_link (negotiate_att_mtu 0) 0)
    ∷ of (on_link get_stored_att_mtu 0)
    ∷ of (poll_request_from_pool_call 0 0)
    ∷ of (pool_confirm_sent_call 0 0)
    ∷ of (pool_grant_end_call (record { handle = 0; packets = 0; index = 0; life = 0 }))
    ∷ []
  where
    of : Call → ℕ × List ℕ
    of c = (kind_of c, numbers_of c)

    read : Option HciEvent → Option (List Pair) → ℕ × List ℕ
    read e ps = (kind_as e ps, numbers_as e ps)

    att : Option Message → ℕ × List ℕ
    att m = (att_kind_as m, att_numbers_as m)

-- ---- what is listed and not answered

abbrev is_answered : ℕ → ℕ → List (ℕ × ℕ) → Bool
is_answered k n [] = false
is_answered k n ((j, m) ∷ as') = (eqb k j && eqb n m) || is_answered k n as'

abbrev idle_of : List (ℕ × ℕ) → ℕ → List ℕ → List (ℕ × ℕ)
idle_of as' k [] = []
idle_of as' k (n ∷ ns) = cond (is_answered k n as') (idle_of as' k ns) ((k, n) ∷ idle_of as' k ns)

abbrev idle : List (ℕ × ℕ) → List (ℕ × List ℕ) → List (ℕ × ℕ)
idle as' [] = []
idle as' ((k, ns) ∷ more) = idle_of as' k ns ++ idle as' more

-- every kind is there
pub every_kind : map (λ (p : ℕ × List ℕ). p.0) listed ≡ 0 ∷ 1 ∷ 2 ∷ 3 ∷ 4 ∷ 5 ∷ 6 ∷ 7 ∷ 8 ∷ 9 ∷ 10 ∷ 11 ∷ 12 ∷ 13 ∷ 14 ∷ 15 ∷ 16 ∷ 17 ∷ 18 ∷ 19 ∷ 20 ∷ 21 ∷ 22 ∷ 23 ∷ 24 ∷ 25 ∷ 26 ∷ 27 ∷ 28 ∷ 29 ∷ 30 ∷ 31 ∷ 32 ∷ 33 ∷ 34 ∷ 35 ∷ 36 ∷ 37 ∷ 38 ∷ 39 ∷ 40 ∷ 41 ∷ 42 ∷ 43 ∷ 44 ∷ 45 ∷ []
every_kind = refl

pub none_idle : idle (answered cases) listed ≡ []
unfolding within raw_pairs handles_fit
none_idle = refl
