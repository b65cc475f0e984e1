-- The proof of `Numbers`. Assumes nothing.
use Rattle.std.specs.Prelude.{ℕ, ◌+◌, ◌-◌, ◌^◌, ◌≡◌, refl, true, List, [], Option, None, Some, eqb, leb, ltb}
use Rattle.state.specs.State.{is_live, is_connected, is_open, is_requesting}
use Rattle.event_queue.specs.declared.ConnectionEvent.{ConnectionEvent}
use Rattle.event_queue.specs.Queue.{pushed, popped}
use Rattle.pool.specs.Pool.{joined, may_draw}
use Rattle.slot.specs.declared.ConnectionStorage.{ConnectionStorage}
use Rattle.slot.specs.declared.ConnectionManager.{ConnectionManager}
use Rattle.slot.specs.declared.Located.{Located}
use Rattle.slot.specs.declared.Located.TheVariants.{Setup, Absent, At}
use Rattle.model.specs.Answer.{Refusal, Reply, Local, Outcome, ok, refusal, accept, oldest_reply}
use Rattle.model.specs.Find.{slot_at, well_formed, locate, by_index, by_live, fits}
use Rattle.model.specs.Link.{Op, get_connected_handle, inc_ref, dec_ref, request_disconnect, request_handle_disconnect, withdraw_disconnect, confirm, disconnected, post_handle_event, next, poll_acquire_acl_send_lock, unlock_acl_send, poll_request_to_send, grant_end, confirm_sent, has_link_credits, exchange_att_mtu, get_att_mtu_handle, negotiate_att_mtu, get_stored_att_mtu, acquire_indication_slot, release_indication_slot, signal_indication_confirmation, wait_indication_confirmation, way_of, absent, local, stale, in_life, where_live}
use Rattle.model.specs.Calls.{Call, on_link, connects, poll_accept_call, get_connection_by_peer_address_call, poll_disconnecting_call, ticket_at, set_link_credits_call, total_lost_call, poll_request_from_pool_call, pool_confirm_sent_call, pool_grant_end_call, grant_confirm, run, settle, done, is_free, is_last_life, accepts, has_peer, requests, returned_at}
use Rattle.model.specs.History.{new, setup_ok}
use Rattle.model.proofs.Laws.{either}
use Rattle.number_theorems.specs.Numbers.{is_in, numbers_on, numbers_of, numbers_of_new, Numbers}

-- the reply's number is one of these
abbrev pub In : List ℕ → Reply → Type 0
In ns r = is_in r.number ns ≡ true

-- ---- a call that is about one slot: 8; the reply where no slot fits; and what it does at a slot

module _ (ns : List ℕ) (none : Reply) (at : ℕ → Local) (t : ConnectionManager)
    (setup : In ns (refusal Refusal.Setup)) (nowhere : In ns none) (there : (i : ℕ) → In ns (at i).reply) where
  settled_in : (f : Located) → In ns (settle none at t f).reply
  settled_in Setup = setup
  settled_in Absent = nowhere
  settled_in (At i) = there i

-- ---- a call on a link

abbrev On : Op → Local → Type 0
On op l = In (numbers_on op) l.reply

oldest_in : (o : Option ConnectionEvent) → In (numbers_on next) (oldest_reply o)
oldest_in None = refl
oldest_in (Some e) = refl

-- the end of a lock, a grant or a ticket: Stale, or by its own tests
in_life_lem : (op : Op) (v : ℕ) (s : ConnectionStorage) (l : Local) → In (numbers_on op) (ok stale) → On op l → On op (in_life v s l)
in_life_lem op v s l z p = either (On op) (eqb v s.life) l (accept stale s) p z

where_live_lem : (op : Op) (s : ConnectionStorage) (l : Local) → In (numbers_on op) (ok []) → On op l → On op (where_live s l)
where_live_lem op s l z p = either (On op) (is_live s.state) l (accept [] s) p z

-- by the call's own tests
found_in : (op : Op) (d i : ℕ) (s : ConnectionStorage) → On op (local op d i s)
found_in get_connected_handle d i s = either (On get_connected_handle) (eqb s.refcount 255) _ _ refl refl
found_in inc_ref d i s = either (On inc_ref) (eqb s.refcount 255) _ _ refl refl
found_in dec_ref d i s =
    either (On dec_ref) (eqb s.refcount 0) _ _ refl
    (either (On dec_ref) (eqb (s.refcount - 1) 0) _ _ (either (On dec_ref) (is_connected s.state) _ _ refl refl) refl)
found_in (request_disconnect r) d i s = either (On (request_disconnect r)) (is_connected s.state) _ _ refl refl
found_in (request_handle_disconnect r) d i s = either (On (request_handle_disconnect r)) (is_connected s.state) _ _ refl refl
found_in withdraw_disconnect d i s =
    either (On withdraw_disconnect) (is_requesting s.state) _ _ (either (On withdraw_disconnect) (eqb s.refcount 0) _ _ refl refl) refl
found_in (confirm h v r) d i s =
    in_life_lem (confirm h v r) v s _ refl (either (On (confirm h v r)) (is_requesting s.state) _ _ refl refl)
found_in (disconnected v) d i s = refl
found_in (post_handle_event e) d i s = either (In (numbers_on (post_handle_event e))) (pushed s.events e).full _ _ refl refl
found_in next d i s = oldest_in (popped s.events).oldest
found_in poll_acquire_acl_send_lock d i s = either (On poll_acquire_acl_send_lock) s.acl_send_locked _ _ refl refl
found_in (unlock_acl_send h v) d i s =
    let op = unlock_acl_send h v in
    in_life_lem op v s _ refl (where_live_lem op s _ refl (either (On op) s.acl_send_locked _ _ refl refl))
found_in (poll_request_to_send j v n) d i s = either (On (poll_request_to_send j v n)) (leb n s.link_credits) _ _ refl refl
found_in (grant_end h v n) d i s =
    let op = grant_end h v n in
    in_life_lem op v s _ refl
    (where_live_lem op s _ refl
    (either (On op) (eqb n 0) _ _ refl (either (On op) (ltb (s.link_credits + n) (2 ^ 32)) _ _ refl refl)))
found_in (confirm_sent n) d i s = either (On (confirm_sent n)) (ltb (s.link_credits + n) (2 ^ 32)) _ _ refl refl
found_in (has_link_credits n) d i s = refl
found_in (exchange_att_mtu m) d i s = refl
found_in get_att_mtu_handle d i s = refl
found_in (negotiate_att_mtu m) d i s = refl
found_in get_stored_att_mtu d i s = refl
found_in acquire_indication_slot d i s =
    either (On acquire_indication_slot) (is_open s.state) _ _
    (either (On acquire_indication_slot) s.indication_in_flight _ _ refl refl)
    refl
found_in release_indication_slot d i s = refl
found_in signal_indication_confirmation d i s = refl
found_in wait_indication_confirmation d i s =
    either (On wait_indication_confirmation) s.indication_cfm_received _ _ refl
    (either (On wait_indication_confirmation) (is_open s.state) _ _ refl refl)

-- 8, and where no slot fits
absent_in : (op : Op) (d : ℕ) → In (numbers_on op) (refusal Refusal.Setup) × In (numbers_on op) (absent op d)
absent_in get_connected_handle d = (refl, refl)
absent_in inc_ref d = (refl, refl)
absent_in dec_ref d = (refl, refl)
absent_in (request_disconnect r) d = (refl, refl)
absent_in (request_handle_disconnect r) d = (refl, refl)
absent_in withdraw_disconnect d = (refl, refl)
absent_in (confirm h v r) d = (refl, refl)
absent_in (disconnected v) d = (refl, refl)
absent_in (post_handle_event e) d = (refl, refl)
absent_in next d = (refl, refl)
absent_in poll_acquire_acl_send_lock d = (refl, refl)
absent_in (unlock_acl_send h v) d = (refl, refl)
absent_in (poll_request_to_send j v n) d = (refl, refl)
absent_in (grant_end h v n) d = (refl, refl)
absent_in (confirm_sent n) d = (refl, refl)
absent_in (has_link_credits n) d = (refl, refl)
absent_in (exchange_att_mtu m) d = (refl, refl)
absent_in get_att_mtu_handle d = (refl, refl)
absent_in (negotiate_att_mtu m) d = (refl, refl)
absent_in get_stored_att_mtu d = (refl, refl)
absent_in acquire_indication_slot d = (refl, refl)
absent_in release_indication_slot d = (refl, refl)
absent_in signal_indication_confirmation d = (refl, refl)
absent_in wait_indication_confirmation d = (refl, refl)

-- ---- packets of the pool that come back

returned_in : (ns : List ℕ) (k : ℕ) (s : ConnectionStorage) → In ns (ok []) → In ns (refusal Refusal.Held)
    → In ns (returned_at k s).reply
returned_in ns k s a b = either (λ (l : Local). In ns l.reply) (leb k s.pool_held) _ _ a b

-- ---- every call

pub answers_in : (c : Call) (t : ConnectionManager) → In (numbers_of c) (run c t).reply
answers_in (on_link op n) t =
    let d = t.default_att_mtu in
    settled_in (numbers_on op) (absent op d) (done op t) t (absent_in op d).0 (absent_in op d).1 (λ i. found_in op d i _)
    (locate (fits (way_of op) n) t)
answers_in (connects h a r p) t =
    settled_in (numbers_of (connects h a r p)) _ _ t refl refl
    (λ i. either (λ (l : Local). In (numbers_of (connects h a r p)) l.reply) (is_last_life (slot_at t i)) _ _ refl refl)
    (locate is_free t)
answers_in (poll_accept_call r ps) t =
    settled_in (numbers_of (poll_accept_call r ps)) _ _ t refl refl
    (λ i. either (λ (l : Local). In (numbers_of (poll_accept_call r ps)) l.reply) (eqb (slot_at t i).refcount 0) _ _ refl refl)
    (locate (accepts r ps) t)
-- it answers as the look-up by handle does
answers_in (get_connection_by_peer_address_call a) t =
    settled_in (numbers_of (get_connection_by_peer_address_call a)) _ _ t refl refl (λ i. found_in get_connected_handle 0 i (slot_at t i)) (locate (has_peer a) t)
answers_in poll_disconnecting_call t = settled_in (numbers_of poll_disconnecting_call) _ (λ i. ticket_at i (slot_at t i)) t refl refl (λ i. refl) (locate requests t)
answers_in (set_link_credits_call c) t =
    either (λ (o : Outcome). In (numbers_of (set_link_credits_call c)) o.reply) (well_formed t) _ _ refl refl
answers_in total_lost_call t = either (λ (o : Outcome). In (numbers_of total_lost_call) o.reply) (well_formed t) _ _ refl refl
answers_in (poll_request_from_pool_call h k) t =
    let On : Local → Type 0 = λ l. In (numbers_of (poll_request_from_pool_call h k)) l.reply in
    settled_in (numbers_of (poll_request_from_pool_call h k)) _ _ t refl refl
    (λ i.
    either On (ltb t.pool.packets k) _ _ refl
    (either On (eqb k 0) _ _ refl (either On (may_draw t.count i k (joined i t.pool)) _ _ refl refl)))
    (locate (fits by_live h) t)
answers_in (pool_confirm_sent_call h k) t =
    settled_in (numbers_of (pool_confirm_sent_call h k)) _ _ t refl refl
    (λ i. returned_in (numbers_of (pool_confirm_sent_call h k)) k (slot_at t i) refl refl)
    (locate (fits by_live h) t)
answers_in (pool_grant_end_call g) t =
    let On : Local → Type 0 = λ l. In (numbers_of (pool_grant_end_call g)) l.reply in
    settled_in (numbers_of (pool_grant_end_call g)) _ _ t refl refl
    (λ i.
    either On (eqb g.life (slot_at t i).life) _ _
    (either On (is_live (slot_at t i).state) _ _ (returned_in (numbers_of (pool_grant_end_call g)) g.packets (slot_at t i) refl refl) refl)
    refl)
    (locate (fits by_index g.index) t)
answers_in (grant_confirm g sent) t = refl

pub new_in : (slots packet_mtu packets : ℕ) → In numbers_of_new (new slots packet_mtu packets).reply
new_in slots packet_mtu packets =
    either (λ (o : Outcome). In numbers_of_new o.reply) (setup_ok slots packet_mtu packets) _ _ refl refl

pub numbers : Numbers
unfolding Numbers
numbers = (answers_in, new_in)
