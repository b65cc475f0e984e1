-- What each call does to the table. Assumes nothing.
use Rattle.std.specs.Prelude.{ℕ, ◌+◌, ◌-◌, ◌%◌, ◌^◌, Option, None, Some, Bool, true, false, cond, not, ◌&&◌, ◌||◌, List, [], ◌∷◌, ◌++◌, map, set, take, drop, eqb, leb, ltb}
use Rattle.state.specs.declared.ConnectionState.{ConnectionState}
use Rattle.state.specs.declared.ConnectionState.TheVariants as state
use Rattle.slot.specs.declared.LeConnRole.{LeConnRole}
use Rattle.slot.specs.declared.LeConnRole.TheVariants as role
use Rattle.slot.specs.declared.BdAddr.{BdAddr}
use Rattle.slot.specs.declared.Address.{Address}
use Rattle.slot.specs.declared.ConnParams.{ConnParams}
use Rattle.slot.specs.declared.ConnectionStorage.{ConnectionStorage}
use Rattle.slot.specs.declared.ConnectionManager.{ConnectionManager}
use Rattle.slot.specs.declared.PacketGrant.{PacketGrant}
use Rattle.slot.specs.declared.PoolGrant.{PoolGrant}
use Rattle.slot.specs.declared.Located.{Located}
use Rattle.slot.specs.declared.Located.TheVariants.{Setup, Absent, At}
use Rattle.slot.specs.declared.Woken.{Woken}
use Rattle.slot.specs.declared.Woken.TheVariants as woken
use Rattle.state.specs.State.{is_live, is_connected, is_connecting, is_open, is_requesting}
use Rattle.event_queue.specs.Queue.{empty_queue}
use Rattle.pool.specs.declared.Pool.{Pool}
use Rattle.pool.specs.declared.Share.TheVariants.{Waits, Draws, GivesBack}
use Rattle.pool.specs.Pool.{joined, may_draw}
use Rattle.pool.specs.Shared.{shared}
use Rattle.slot.specs.Set.{set_state, set_refcount, set_link_credits, set_pool_held, set_pool, set_connections, set_default_link_credits}
use Rattle.model.specs.Answer.{Refusal, Reply, Local, Outcome, ok, refusal, accept, wake, refuse, unmoved, reason_value}
use Rattle.model.specs.Find.{Test, slot_at, well_formed, locate, by_index, by_live, fits, lost_of}
use Rattle.model.specs.Link.{Op, way_of, absent, local, in_life, raised_ref, blocked}

-- ---- a call that is about one slot

-- the table with slot i put back: every other slot and both defaults are kept
abbrev pub put : ConnectionManager → ℕ → ConnectionStorage → ConnectionManager
put t i s = set_connections t (set t.connections i s)

-- the same, with the pool as it is then
abbrev pub put_with : ConnectionManager → ℕ → ConnectionStorage → Pool → ConnectionManager
put_with t i s pool = set_pool (put t i s) pool

abbrev pub placed : ConnectionManager → ℕ → Local → Outcome
placed t i l = record { reply = l.reply; woken = l.woken; table = put_with t i l.slot (shared i l.share t.pool) }

-- from what the search found: 8; the call's reply where no slot fits; or what it does to the slot found
abbrev pub settle : Reply → (ℕ → Local) → ConnectionManager → Located → Outcome
settle none done t Setup = unmoved (refusal Refusal.Setup) t
settle none done t Absent = unmoved none t
settle none done t (At i) = placed t i (done i)

abbrev pub outcome : Test → Reply → (ℕ → Local) → ConnectionManager → Outcome
outcome test none done t = settle none done t (locate test t)

-- ---- a call on a link, which goes by the index or handle n

-- what it does at slot i: it reads that slot and the default ATT MTU
abbrev pub done : Op → ConnectionManager → ℕ → Local
done op t i = local op t.default_att_mtu i (slot_at t i)

abbrev pub step : Op → ℕ → ConnectionManager → Outcome
step op n t = outcome (fits (way_of op) n) (absent op t.default_att_mtu) (done op t) t

-- ---- connect

-- "lowest Disconnected slot with 0 references"
abbrev pub is_free : Test
is_free i s = not (is_open s.state) && eqb s.refcount 0

abbrev pub role_waiter : LeConnRole → Woken
role_waiter role.Central = woken.Central
role_waiter role.Peripheral = woken.Peripheral

-- a life more; the lost count starts anew; references, blocked_sends, packets of the pool and both indication flags are kept
abbrev pub connecting : ℕ → Address → LeConnRole → ConnParams → ℕ → ConnectionStorage → ConnectionStorage
connecting handle peer role params credits s =
    record {
      state = state.Connecting;
      handle = handle;
      life = s.life + 1;
      role = role;
      peer_identity = peer;
      params = params;
      subrating_params = None;
      att_mtu = 0;
      link_credits = credits;
      acl_send_locked = false;
      refcount = s.refcount;
      blocked_sends = s.blocked_sends;
      lost = 0;
      pool_held = s.pool_held;
      indication_in_flight = s.indication_in_flight;
      indication_cfm_received = s.indication_cfm_received;
      events = empty_queue;
    }

-- "15 from `connect` when the chosen slot's life is 4,294,967,295; it does not search on"
abbrev pub is_last_life : ConnectionStorage → Bool
is_last_life s = eqb s.life 4294967295

abbrev pub connected_at : ℕ → Address → LeConnRole → ConnParams → ℕ → ConnectionStorage → Local
connected_at handle peer role params credits s =
    cond (is_last_life s) (refuse Refusal.Life s) (wake (role_waiter role) (connecting handle peer role params credits s))

abbrev pub connect : ℕ → Address → LeConnRole → ConnParams → ConnectionManager → Outcome
connect handle peer role params t =
    outcome is_free (refusal Refusal.NotFound)
    (λ i. connected_at handle peer role params t.default_link_credits (slot_at t i))
    t

-- ---- a peer's address

-- equal kind byte and equal six address bytes
abbrev pub same_addr : BdAddr → BdAddr → Bool
same_addr a b =
    eqb a.0 b.0
    && (eqb a.1 b.1 && (eqb a.2 b.2 && (eqb a.3 b.3 && (eqb a.4 b.4 && eqb a.5 b.5))))

abbrev pub same_address : Address → Address → Bool
same_address a b = eqb a.kind b.kind && same_addr a.addr b.addr

abbrev pub among : List Address → Address → Bool
among [] a = false
among (p ∷ ps) a = same_address p a || among ps a

-- "an empty list fits all"
abbrev pub fits_peers : List Address → Address → Bool
fits_peers [] a = true
fits_peers (p ∷ ps) a = among (p ∷ ps) a

abbrev pub same_role : LeConnRole → LeConnRole → Bool
same_role role.Central role.Central = true
same_role role.Central role.Peripheral = false
same_role role.Peripheral role.Central = false
same_role role.Peripheral role.Peripheral = true

-- ---- poll_accept

abbrev pub accepts : LeConnRole → List Address → Test
accepts role peers i s = is_connecting s.state && (same_role role s.role && fits_peers peers s.peer_identity)

-- "Becomes Connected with 1 reference"; "References not 0: 6, and the search stops"
abbrev pub accepted_at : ℕ → ConnectionStorage → Local
accepted_at i s =
    cond (eqb s.refcount 0)
    (accept (i ∷ []) (set_refcount (set_state s state.Connected) 1))
    (refuse Refusal.Refs s)

abbrev pub poll_accept : LeConnRole → List Address → ConnectionManager → Outcome
poll_accept role peers t = outcome (accepts role peers) (refusal Refusal.Pending) (λ i. accepted_at i (slot_at t i)) t

-- ---- get_connection_by_peer_address

abbrev pub has_peer : Address → Test
has_peer a i s = is_connected s.state && same_address a s.peer_identity

abbrev pub get_connection_by_peer_address : Address → ConnectionManager → Outcome
get_connection_by_peer_address a t = outcome (has_peer a) (refusal Refusal.NotFound) (λ i. raised_ref (i ∷ []) (slot_at t i)) t

-- ---- poll_disconnecting

abbrev pub requests : Test
requests i s = is_requesting s.state

-- the reason inside the state (a state without one is not found by the search)
abbrev pub reason_in : ConnectionState → ℕ
reason_in state.Disconnected = 0
reason_in (state.DisconnectRequest r) = reason_value r
reason_in (state.Disconnecting r) = reason_value r
reason_in state.Connecting = 0
reason_in state.Connected = 0

-- document 01's "ticket": the index, handle and reason of the lowest requesting slot, and its life
abbrev pub ticket_at : ℕ → ConnectionStorage → Local
ticket_at i s = accept (i ∷ s.handle ∷ reason_in s.state ∷ s.life ∷ []) s

abbrev pub poll_disconnecting : ConnectionManager → Outcome
poll_disconnecting t = outcome requests (refusal Refusal.Pending) (λ i. ticket_at i (slot_at t i)) t

-- ---- set_link_credits: "default and all slots"

-- the first n slots with c credits each, the rest as they were
abbrev pub with_credits_below : ℕ → ℕ → List ConnectionStorage → List ConnectionStorage
with_credits_below c n ss = map (λ (s : ConnectionStorage). set_link_credits s c) (take n ss) ++ drop n ss

abbrev pub with_credits : ℕ → ConnectionManager → ConnectionManager
with_credits c t = set_default_link_credits (set_connections t (with_credits_below c t.count t.connections)) c

abbrev pub set_credits : ℕ → ConnectionManager → Outcome
set_credits c t = cond (well_formed t) (unmoved (ok []) (with_credits c t)) (unmoved (refusal Refusal.Setup) t)

-- ---- total_lost: the lost counts of all slots, wrapped

abbrev pub lost_in : ConnectionManager → ℕ
lost_in t = lost_of t.connections t.count 0 % 2 ^ 32

abbrev pub total_lost : ConnectionManager → Outcome
total_lost t = cond (well_formed t) (unmoved (ok (lost_in t ∷ [])) t) (unmoved (refusal Refusal.Setup) t)

-- ---- the packet pool: three calls that wake nobody

-- granted k packets of the pool: the slot's handle, the packets, the slot's index and its life
abbrev pub pool_granted : ℕ → ℕ → ConnectionStorage → List ℕ
pool_granted k i s = s.handle ∷ k ∷ i ∷ s.life ∷ []

-- an ask above 0 of slot i, which is among the waiting with it: "granted exactly if the slot is the next waiting one .. and the
-- packets are free" (`may`); "else Pending, counted in `blocked_sends`"
abbrev pub drawn_if : Bool → ℕ → ℕ → ConnectionStorage → Local
drawn_if may k i s =
    cond may
    (record { reply = ok (pool_granted k i s); woken = woken.Nobody; slot = set_pool_held s (s.pool_held + k); share = Draws k })
    (record { reply = refusal Refusal.Pending; woken = woken.Nobody; slot = blocked s; share = Waits })

-- "13 for an ask above c, after the slot search"; "An ask of 0 is granted and touches no turn. Any other ask puts its slot
-- among the waiting"
abbrev pub asked_if : Bool → ℕ → ℕ → ConnectionStorage → Pool → Local
asked_if may k i s p =
    cond (ltb p.packets k) (refuse Refusal.Ask s) (cond (eqb k 0) (accept (pool_granted k i s) s) (drawn_if may k i s))

-- in a table of n slots
abbrev pub asked_at : ℕ → ℕ → ℕ → ConnectionStorage → Pool → Local
asked_at n k i s p = asked_if (may_draw n i k (joined i p)) k i s p

abbrev pub poll_request_from_pool : ℕ → ℕ → ConnectionManager → Outcome
poll_request_from_pool h k t =
    outcome (fits by_live h) (refusal Refusal.Disconnected) (λ i. asked_at t.count k i (slot_at t i) t.pool) t

-- "14 for completing or returning more than the link holds"
abbrev pub returned_at : ℕ → ConnectionStorage → Local
returned_at k s =
    cond (leb k s.pool_held)
    (record { reply = ok []; woken = woken.Nobody; slot = set_pool_held s (s.pool_held - k); share = GivesBack k })
    (refuse Refusal.Held s)

-- "live slot of the handle, else 2"
abbrev pub pool_confirm_sent : ℕ → ℕ → ConnectionManager → Outcome
pool_confirm_sent h k t = outcome (fits by_live h) (refusal Refusal.NotFound) (λ i. returned_at k (slot_at t i)) t

-- the end of a pool grant with k packets left, at its slot: Stale in another life; "else .. for pool grants those of L5"
abbrev pub pool_ended_at : ℕ → ℕ → ConnectionStorage → Local
pool_ended_at life k s = in_life life s (cond (is_live s.state) (returned_at k s) (refuse Refusal.NotFound s))

abbrev pub pool_grant_end : PoolGrant → ConnectionManager → Outcome
pool_grant_end g t =
    outcome (fits by_index g.index) (refusal Refusal.Index) (λ i. pool_ended_at g.life g.packets (slot_at t i)) t

-- ---- PacketGrant::confirm, on the grant alone: the larger of 0 and what was there less the packets confirmed

abbrev pub grant_confirmed : PacketGrant → ℕ → PacketGrant
grant_confirmed g sent = record { handle = g.handle; packets = g.packets - sent; index = g.index; life = g.life }

abbrev pub grant_values : PacketGrant → List ℕ
grant_values g = g.handle ∷ g.packets ∷ g.index ∷ g.life ∷ []

-- ---- every call

pub data Call : Type 0 where
  on_link : (op : Op) (n : ℕ) → Call
  connects : (handle : ℕ) (peer : Address) (role : LeConnRole) (params : ConnParams) → Call
  poll_accept_call : (role : LeConnRole) (peers : List Address) → Call
  get_connection_by_peer_address_call : (peer : Address) → Call
  poll_disconnecting_call : Call
  set_link_credits_call : (credits : ℕ) → Call
  total_lost_call : Call
  poll_request_from_pool_call : (handle packets : ℕ) → Call
  pool_confirm_sent_call : (handle packets : ℕ) → Call
  pool_grant_end_call : (g : PoolGrant) → Call
  grant_confirm : (g : PacketGrant) (sent : ℕ) → Call

abbrev pub run : Call → ConnectionManager → Outcome
run (on_link op n) t = step op n t
run (connects handle peer role params) t = connect handle peer role params t
run (poll_accept_call role peers) t = poll_accept role peers t
run (get_connection_by_peer_address_call peer) t = get_connection_by_peer_address peer t
run poll_disconnecting_call t = poll_disconnecting t
run (set_link_credits_call c) t = set_credits c t
run total_lost_call t = total_lost t
run (poll_request_from_pool_call h k) t = poll_request_from_pool h k t
run (pool_confirm_sent_call h k) t = pool_confirm_sent h k t
run (pool_grant_end_call g) t = pool_grant_end g t
run (grant_confirm g sent) t =
    unmoved (ok (grant_values (grant_confirmed g sent))) t
