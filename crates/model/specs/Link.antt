-- What each call on one link does to its own slot: the 21 per-link calls of document 01, the ends of locks, grants and tickets as
-- 02's L6 has them, and the three calls of 02's L3 and L9. Assumes nothing.
use Rattle.std.specs.Prelude.{ℕ, ◌+◌, ◌-◌, ◌^◌, min, Bool, true, false, cond, ◌&&◌, List, [], ◌∷◌, Option, None, Some, eqb, leb, ltb}
use Rattle.state.specs.declared.DisconnectReason.{DisconnectReason}
use Rattle.state.specs.declared.DisconnectReason.TheVariants.{RemoteUserTerminatedConn}
use Rattle.state.specs.declared.ConnectionState.TheVariants as state
use Rattle.slot.specs.declared.SubratingParams.{SubratingParams}
use Rattle.event_queue.specs.declared.ConnectionEvent.{ConnectionEvent}
use Rattle.event_queue.specs.declared.ConnectionEvent.TheVariants as event
use Rattle.slot.specs.declared.ConnectionStorage.{ConnectionStorage}
use Rattle.slot.specs.declared.Woken.TheVariants as woken
use Rattle.pool.specs.declared.Share.TheVariants.{Untouched, Closes}
use Rattle.state.specs.State.{is_live, is_connected, is_open, is_requesting}
use Rattle.event_queue.specs.Queue.{Pushed, pushed, popped}
use Rattle.slot.specs.Set.{set_state, set_params, set_subrating_params, set_att_mtu, set_link_credits, set_acl_send_locked, set_refcount, set_blocked_sends, set_lost, set_pool_held, set_indication_in_flight, set_indication_cfm_received, set_events}
use Rattle.model.specs.Answer.{Refusal, Reply, Local, ok, refusal, accept, wake, refuse, oldest_reply, next_count, raised}
use Rattle.model.specs.Find.{Way, by_index, by_live, by_connected, by_open}

-- a call on a link, without the handle or index by which it goes. (An end goes by the index in its lock, grant or ticket; it does
-- not look at the handle there, which stands here with the life. `poll_request_to_send` goes by the handle of the lock that it is
-- given, and does not look at the lock's index and life, which stand here.)
pub data Op : Type 0 where
  get_connected_handle : Op
  inc_ref : Op
  dec_ref : Op
  request_disconnect : (reason : DisconnectReason) → Op
  request_handle_disconnect : (reason : DisconnectReason) → Op
  withdraw_disconnect : Op
  confirm : (handle life : ℕ) (reason : DisconnectReason) → Op
  disconnected : (status : ℕ) → Op
  post_handle_event : (e : ConnectionEvent) → Op
  next : Op
  poll_acquire_acl_send_lock : Op
  unlock_acl_send : (handle life : ℕ) → Op
  poll_request_to_send : (index life packets : ℕ) → Op
  grant_end : (handle life packets : ℕ) → Op
  confirm_sent : (packets : ℕ) → Op
  has_link_credits : (packets : ℕ) → Op
  exchange_att_mtu : (mtu : ℕ) → Op
  get_att_mtu_handle : Op
  negotiate_att_mtu : (mtu : ℕ) → Op
  get_stored_att_mtu : Op
  acquire_indication_slot : Op
  release_indication_slot : Op
  signal_indication_confirmation : Op
  wait_indication_confirmation : Op

-- how the slot is found
abbrev pub way_of : Op → Way
way_of get_connected_handle = by_connected
way_of inc_ref = by_index
way_of dec_ref = by_index
way_of (request_disconnect r) = by_index
way_of (request_handle_disconnect r) = by_live
way_of withdraw_disconnect = by_index
way_of (confirm h v r) = by_index
way_of (disconnected v) = by_open
way_of (post_handle_event e) = by_connected
way_of next = by_index
way_of poll_acquire_acl_send_lock = by_live
way_of (unlock_acl_send h v) = by_index
way_of (poll_request_to_send j v n) = by_live
way_of (grant_end h v n) = by_index
way_of (confirm_sent n) = by_live
way_of (has_link_credits n) = by_live
way_of (exchange_att_mtu m) = by_live
way_of get_att_mtu_handle = by_connected
way_of (negotiate_att_mtu m) = by_live
way_of get_stored_att_mtu = by_live
way_of acquire_indication_slot = by_index
way_of release_indication_slot = by_index
way_of signal_indication_confirmation = by_live
way_of wait_indication_confirmation = by_index

-- the reply where no slot fits: 1 for an index; by handle 2, 3, "nothing" or a number. d is the table's default ATT MTU.
abbrev pub absent : Op → ℕ → Reply
absent get_connected_handle d = refusal Refusal.NotFound
absent inc_ref d = refusal Refusal.Index
absent dec_ref d = refusal Refusal.Index
absent (request_disconnect r) d = refusal Refusal.Index
absent (request_handle_disconnect r) d = ok []
absent withdraw_disconnect d = refusal Refusal.Index
absent (confirm h v r) d = refusal Refusal.Index
absent (disconnected v) d = refusal Refusal.NotFound
absent (post_handle_event e) d = refusal Refusal.NotFound
absent next d = refusal Refusal.Index
absent poll_acquire_acl_send_lock d = refusal Refusal.NotFound
absent (unlock_acl_send h v) d = refusal Refusal.Index
absent (poll_request_to_send j v n) d = refusal Refusal.Disconnected
absent (grant_end h v n) d = refusal Refusal.Index
absent (confirm_sent n) d = refusal Refusal.NotFound
absent (has_link_credits n) d = ok (0 ∷ [])
absent (exchange_att_mtu m) d = ok (m ∷ [])
absent get_att_mtu_handle d = ok (d ∷ [])
absent (negotiate_att_mtu m) d = ok (23 ∷ [])
absent get_stored_att_mtu d = ok (23 ∷ [])
absent acquire_indication_slot d = refusal Refusal.Index
absent release_indication_slot d = refusal Refusal.Index
absent signal_indication_confirmation d = ok []
absent wait_indication_confirmation d = refusal Refusal.Index

-- whether the call closes its link, for what is said of calls: what it does is said by `local`
abbrev pub closing : Op → Bool
closing get_connected_handle = false
closing inc_ref = false
closing dec_ref = false
closing (request_disconnect r) = false
closing (request_handle_disconnect r) = false
closing withdraw_disconnect = false
closing (confirm h v r) = false
closing (disconnected v) = true
closing (post_handle_event e) = false
closing next = false
closing poll_acquire_acl_send_lock = false
closing (unlock_acl_send h v) = false
closing (poll_request_to_send j v n) = false
closing (grant_end h v n) = false
closing (confirm_sent n) = false
closing (has_link_credits n) = false
closing (exchange_att_mtu m) = false
closing get_att_mtu_handle = false
closing (negotiate_att_mtu m) = false
closing get_stored_att_mtu = false
closing acquire_indication_slot = false
closing release_indication_slot = false
closing signal_indication_confirmation = false
closing wait_indication_confirmation = false

-- ---- the end of a lock, a grant or a ticket, at its slot

-- the value that says Stale; an end that is not stale has none
abbrev pub stale : List ℕ
stale = 1 ∷ []

-- "with a life other than its present one does nothing and says Stale; else 01's state rules hold"
abbrev pub in_life : ℕ → ConnectionStorage → Local → Local
in_life life s l = cond (eqb life s.life) l (accept stale s)

-- 01's rules for a lock and a grant: "the live slot .., if any"; "no slot, nothing"
abbrev pub where_live : ConnectionStorage → Local → Local
where_live s l = cond (is_live s.state) l (accept [] s)

-- ---- references and disconnection

-- a reference more: 6 at 255
abbrev pub raised_ref : List ℕ → ConnectionStorage → Local
raised_ref vs s = cond (eqb s.refcount 255) (refuse Refusal.Refs s) (accept vs (set_refcount s (s.refcount + 1)))

-- "Connected becomes a request; otherwise nothing, no refusal"
abbrev pub requested : DisconnectReason → ConnectionStorage → Local
requested r s = cond (is_connected s.state) (wake woken.Disconnect (set_state s (state.DisconnectRequest r))) (accept [] s)

-- "a slot with a disconnect request and at least one reference becomes Connected again"; "In any other state than a request
-- nothing happens"; "16 for a request on a slot without references"
abbrev pub withdrawn : ConnectionStorage → Local
withdrawn s =
    cond (is_requesting s.state)
    (cond (eqb s.refcount 0) (refuse Refusal.Unreferenced s) (accept [] (set_state s state.Connected)))
    (accept [] s)

-- "A drop to 0 while Connected makes a request with 0x13; in any other state only the count falls"
abbrev pub after_drop : ConnectionStorage → Local
after_drop s = cond (eqb s.refcount 0) (requested RemoteUserTerminatedConn s) (accept [] s)

-- a reference less: 6 at 0
abbrev pub dropped_ref : ConnectionStorage → Local
dropped_ref s = cond (eqb s.refcount 0) (refuse Refusal.Refs s) (after_drop (set_refcount s (s.refcount - 1)))

-- "if that index is requesting, it becomes Disconnecting with the ticket's reason, even when the slot's differs; else nothing"
abbrev pub confirmed : DisconnectReason → ConnectionStorage → Local
confirmed r s = cond (is_requesting s.state) (accept [] (set_state s (state.Disconnecting r))) (accept [] s)

-- "Disconnected, lock and both indication flags off, blocked_sends 0"; and it holds no packets of the pool
abbrev pub closed : ConnectionStorage → ConnectionStorage
closed s =
    set_pool_held
    (set_blocked_sends
    (set_indication_cfm_received (set_indication_in_flight (set_acl_send_locked (set_state s state.Disconnected) false) false) false)
    0)
    0

-- one event more is lost
abbrev pub one_lost : ConnectionStorage → ConnectionStorage
one_lost s = set_lost s (next_count s.lost)

-- what a push makes of the slot's queue; where the queue was full, the event is lost: the slot's lost count +1
abbrev pub after_push : Pushed → ConnectionStorage → ConnectionStorage
after_push p s = set_lost (set_events s p.queue) (raised p.full s.lost)

-- "a Disconnected event queued, or lost count +1 if full": the slot's own; it ends the wait "and brings all of that link's
-- packets back"
abbrev pub disconnected_at : ℕ → ℕ → ConnectionStorage → Local
disconnected_at status i s =
    record {
      reply = ok [];
      woken = woken.Link i;
      slot = after_push (pushed s.events (event.Disconnected status)) (closed s);
      share = Closes s.pool_held;
    }

-- ---- events

-- "the pair only if the factor exceeds 1, else none"
abbrev pub subrating_of : ℕ → ℕ → Option SubratingParams
subrating_of factor continuation =
    cond (ltb 1 factor)
    (Some (record { subrate_factor = factor; continuation_number = continuation }))
    None

-- the parameters and the subrating that an event stores
abbrev pub stored : ConnectionEvent → ConnectionStorage → ConnectionStorage
stored (event.Disconnected v) s = s
stored (event.PhyUpdated tx rx) s = s
stored (event.ConnectionParamsUpdated latency interval timeout) s =
    set_params
    (set_subrating_params s (cond (eqb interval s.params.conn_interval) s.subrating_params None))
    (record { conn_interval = interval; peripheral_latency = latency; supervision_timeout = timeout })
stored (event.SubratingParamsUpdated factor latency continuation timeout) s =
    set_subrating_params
    (set_params s
    (record {
      conn_interval = s.params.conn_interval;
      peripheral_latency = latency;
      supervision_timeout = timeout;
    }))
    (subrating_of factor continuation)
stored (event.DataLengthUpdated a b c d) s = s
stored (event.ConnectionRateChanged a b c d e) s = s

-- the parameters first, then the queue: 4 where it is full, and the slot's lost count +1
abbrev pub posted : ConnectionEvent → ConnectionStorage → Local
posted e s =
    record {
      reply = cond (pushed s.events e).full (refusal Refusal.OutOfMemory) (ok []);
      woken = woken.Nobody;
      slot = after_push (pushed s.events e) (stored e s);
      share = Untouched;
    }

-- `next` polled once
abbrev pub next_of : ConnectionStorage → Local
next_of s =
    record {
      reply = oldest_reply (popped s.events).oldest;
      woken = woken.Nobody;
      slot = set_events s (popped s.events).queue;
      share = Untouched;
    }

-- ---- lock, grant and credits

abbrev pub blocked : ConnectionStorage → ConnectionStorage
blocked s = set_blocked_sends s (next_count s.blocked_sends)

-- the lock: the slot's handle, its index and its life; "held: 5"
abbrev pub locked : ℕ → ConnectionStorage → Local
locked i s =
    cond s.acl_send_locked
    (refuse Refusal.Pending (blocked s))
    (accept (s.handle ∷ i ∷ s.life ∷ []) (set_acl_send_locked s true))

abbrev pub unlocked : ℕ → ConnectionStorage → Local
unlocked i s = cond s.acl_send_locked (wake (woken.AclSendLock i) (set_acl_send_locked s false)) (accept [] s)

-- the grant: the slot's handle, the packets, the slot's index and its life; "too few credits 5; n = 0 is granted"
abbrev pub granted : ℕ → ℕ → ConnectionStorage → Local
granted n i s =
    cond (leb n s.link_credits)
    (accept (s.handle ∷ n ∷ i ∷ s.life ∷ []) (set_link_credits s (s.link_credits - n)))
    (refuse Refusal.Pending (blocked s))

-- credits up: 7 where the sum is above 4,294,967,295
abbrev pub credited : ℕ → ℕ → ConnectionStorage → Local
credited n i s =
    cond (ltb (s.link_credits + n) (2 ^ 32))
    (wake (woken.LinkCredit i) (set_link_credits s (s.link_credits + n)))
    (refuse Refusal.Credits s)

-- a grant with nothing left gives nothing back and wakes nobody
abbrev pub grant_ended : ℕ → ℕ → ConnectionStorage → Local
grant_ended n i s = cond (eqb n 0) (accept [] s) (credited n i s)

abbrev pub bit : Bool → ℕ
bit true = 1
bit false = 0

-- ---- MTU and indication

-- "answers the stored number, none as 23"
abbrev pub mtu_of : ℕ → ℕ
mtu_of m = cond (eqb m 0) 23 m

-- "stores min(default, m), 0 stored as none": none is 0
abbrev pub exchanged : ℕ → ℕ → ConnectionStorage → Local
exchanged m d s = accept (mtu_of (min d m) ∷ []) (set_att_mtu s (min d m))

-- "both offers at least 23 give the lower one; otherwise 23": our own offer is the default d
abbrev pub by_specification : ℕ → ℕ → ℕ
by_specification d m = cond (leb 23 d && leb 23 m) (min d m) 23

-- "that is stored"
abbrev pub negotiated : ℕ → ℕ → ConnectionStorage → Local
negotiated m d s = accept (by_specification d m ∷ []) (set_att_mtu s (by_specification d m))

-- "Disconnected 3, in flight 5, else in flight and not confirmed"
abbrev pub acquired : ConnectionStorage → Local
acquired s =
    cond (is_open s.state)
    (cond s.indication_in_flight
    (refuse Refusal.Pending s)
    (accept [] (set_indication_cfm_received (set_indication_in_flight s true) false)))
    (refuse Refusal.Disconnected s)

abbrev pub released : ℕ → ConnectionStorage → Local
released i s = wake (woken.IndicationSlot i) (set_indication_cfm_received (set_indication_in_flight s false) false)

abbrev pub signalled : ℕ → ConnectionStorage → Local
signalled i s = wake (woken.IndicationCfm i) (set_indication_cfm_received s true)

-- polled once: "confirmed: cleared, yes; then Disconnected 3; then 5"
abbrev pub waited : ConnectionStorage → Local
waited s =
    cond s.indication_cfm_received
    (accept [] (set_indication_cfm_received s false))
    (cond (is_open s.state) (refuse Refusal.Pending s) (refuse Refusal.Disconnected s))

-- ---- every call on a link: d is the table's default ATT MTU, i the slot's index, s the slot

abbrev pub local : Op → ℕ → ℕ → ConnectionStorage → Local
local get_connected_handle d i s = raised_ref (i ∷ []) s
local inc_ref d i s = raised_ref [] s
local dec_ref d i s = dropped_ref s
local (request_disconnect r) d i s = requested r s
local (request_handle_disconnect r) d i s = requested r s
local withdraw_disconnect d i s = withdrawn s
local (confirm h v r) d i s = in_life v s (confirmed r s)
local (disconnected v) d i s = disconnected_at v i s
local (post_handle_event e) d i s = posted e s
local next d i s = next_of s
local poll_acquire_acl_send_lock d i s = locked i s
local (unlock_acl_send h v) d i s = in_life v s (where_live s (unlocked i s))
local (poll_request_to_send j v n) d i s = granted n i s
local (grant_end h v n) d i s = in_life v s (where_live s (grant_ended n i s))
local (confirm_sent n) d i s = credited n i s
local (has_link_credits n) d i s = accept (bit (leb n s.link_credits) ∷ []) s
local (exchange_att_mtu m) d i s = exchanged m d s
local get_att_mtu_handle d i s = accept (mtu_of s.att_mtu ∷ []) s
local (negotiate_att_mtu m) d i s = negotiated m d s
local get_stored_att_mtu d i s = accept (mtu_of s.att_mtu ∷ []) s
local acquire_indication_slot d i s = acquired s
local release_indication_slot d i s = released i s
local signal_indication_confirmation d i s = signalled i s
local wait_indication_confirmation d i s = waited s
