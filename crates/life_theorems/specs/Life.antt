-- "A late release touches only its own link": what a slot's life is, and what the end of a lock, a grant, a ticket or a pool grant
-- does. This file is the statements. `LifeCounts` is proved in Lives.antt, the others in Ended.antt; LifeCase.antt has cases of
-- all. Assumes nothing.
use Rattle.std.specs.Prelude.{ℕ, ◌+◌, ◌^◌, ◌<◌, ◌≡◌, ◌≢◌, true, false, cond, List, [], ◌∷◌, eqb}
use Rattle.state.specs.declared.DisconnectReason.{DisconnectReason}
use Rattle.slot.specs.declared.ConnectionStorage.{ConnectionStorage}
use Rattle.slot.specs.declared.ConnectionManager.{ConnectionManager}
use Rattle.state.specs.State.{is_open}
use Rattle.model.specs.Answer.{Refusal, Reply, Local, Outcome, ok, refusal, unmoved}
use Rattle.model.specs.Find.{slot_at, well_formed, fits, by_index, by_live}
use Rattle.model.specs.Link.{poll_acquire_acl_send_lock, unlock_acl_send, poll_request_to_send, grant_end, confirm, stale, unlocked, grant_ended, confirmed}
use Rattle.model.specs.Calls.{Call, on_link, connects, poll_accept_call, get_connection_by_peer_address_call, poll_disconnecting_call, set_link_credits_call, total_lost_call, poll_request_from_pool_call, pool_confirm_sent_call, pool_grant_end_call, grant_confirm, run, outcome}
use Rattle.model.specs.History.{Reached, new, after}
use Rattle.model.specs.Demand3.{Link, Trace, end_table}
use Rattle.model_theorems.specs.Lost.{takes}

-- ---- what a life is

-- how often `connect` takes slot i: in one call, and in a history
abbrev pub taken_by : Call → ConnectionManager → ℕ → ℕ
taken_by (on_link op h) t i = 0
taken_by (connects h a r p) t i = cond (takes t i) 1 0
taken_by (poll_accept_call r ps) t i = 0
taken_by (get_connection_by_peer_address_call a) t i = 0
taken_by poll_disconnecting_call t i = 0
taken_by (set_link_credits_call c) t i = 0
taken_by total_lost_call t i = 0
taken_by (poll_request_from_pool_call h k) t i = 0
taken_by (pool_confirm_sent_call h k) t i = 0
taken_by (pool_grant_end_call g) t i = 0
taken_by (grant_confirm g sent) t i = 0

abbrev pub taken_in : List Call → ConnectionManager → ℕ → ℕ
taken_in [] t i = 0
taken_in (c ∷ cs) t i = taken_by c t i + taken_in cs (run c t).table i

-- "0 at first, raised by one by `connect`", and by nothing else; it always has 32 bits
unfoldable pub LifeCounts : Type 0
LifeCounts =
    (t : ConnectionManager) (r : Reached t) (i : ℕ) → i < t.count
    → ((slot_at t i).life ≡ taken_in r.calls (new r.slots r.packet_mtu r.packets).table i) × ((slot_at t i).life < 2 ^ 32)

-- ---- locks, grants, tickets and pool grants

-- the call's answer is a lock, a grant, a ticket or a pool grant of slot i in its life v
pub data HandsOut : Call → List ℕ → ℕ → ℕ → Type 0 where
  a_lock : (n h i v : ℕ) → HandsOut (on_link poll_acquire_acl_send_lock n) (h ∷ i ∷ v ∷ []) i v
  a_grant : (n j w p h q i v : ℕ) → HandsOut (on_link (poll_request_to_send j w p) n) (h ∷ q ∷ i ∷ v ∷ []) i v
  a_ticket : (i h r v : ℕ) → HandsOut poll_disconnecting_call (i ∷ h ∷ r ∷ v ∷ []) i v
  a_pool_grant : (n p h q i v : ℕ) → HandsOut (poll_request_from_pool_call n p) (h ∷ q ∷ i ∷ v ∷ []) i v

-- the end of one of slot i and the life v, with any handle, any packets left and any reason
pub data Ends (i v : ℕ) : Call → Type 0 where
  a_lock : (h : ℕ) → Ends i v (on_link (unlock_acl_send h v) i)
  a_grant : (h n : ℕ) → Ends i v (on_link (grant_end h v n) i)
  a_ticket : (h : ℕ) (r : DisconnectReason) → Ends i v (on_link (confirm h v r) i)
  a_pool_grant : (h n : ℕ) → Ends i v (pool_grant_end_call (record { handle = h; packets = n; index = i; life = v }))

-- "locks, grants and disconnect tickets carry slot and life", and pool grants do: those of a slot as it is, in every table. So
-- until a `connect` takes the slot again, no end of what was handed out is stale.
unfoldable pub HandedOut : Type 0
HandedOut =
    (t : ConnectionManager) (c : Call) (vs : List ℕ) (i v : ℕ) → HandsOut c vs i v → (run c t).reply ≡ ok vs
    → (i < t.count) × (v ≡ (slot_at t i).life)
    × (Reached t → (cs : List Call) → taken_in cs (run c t).table i ≡ 0 → (end : Call) → Ends i v end
    → (run end (after cs (run c t).table)).reply ≢ ok stale)

-- "with a life other than its present one does nothing and says Stale": every table is left and nobody is woken, 8 and 1 aside
-- the answer is Stale; and it is Stale in no other case
unfoldable pub StaleEnd : Type 0
StaleEnd =
    (i v : ℕ) (end : Call) → Ends i v end → (t : ConnectionManager)
    → (v ≢ (slot_at t i).life → run end t ≡ unmoved (run end t).reply t)
    × (well_formed t ≡ true → i < t.count → v ≢ (slot_at t i).life → (run end t).reply ≡ ok stale)
    × ((run end t).reply ≡ ok stale → (well_formed t ≡ true) × (i < t.count) × (v ≢ (slot_at t i).life))

-- what was handed out before a later `connect` that takes its slot is stale after it, for ever: the link came back in its old slot
unfoldable pub LateEnd : Type 0
LateEnd =
    (t : ConnectionManager) → Reached t
    → (c : Call) (vs : List ℕ) (i v : ℕ) → HandsOut c vs i v → (run c t).reply ≡ ok vs
    → (cs : List Call) → taken_in cs (run c t).table i ≢ 0
    → (end : Call) → Ends i v end
    → run end (after cs (run c t).table) ≡ unmoved (ok stale) (after cs (run c t).table)

-- an end's answer at a closed slot in its present life: 01's "nothing"; of a pool grant L5's "live slot .., else 2"
abbrev pub own_reply : {i v : ℕ} {end : Call} → Ends i v end → Reply
own_reply (Ends.a_lock h) = ok []
own_reply (Ends.a_grant h n) = ok []
own_reply (Ends.a_ticket h r) = ok []
own_reply (Ends.a_pool_grant h n) = refusal Refusal.NotFound

-- the same in any life: that, or Stale
abbrev pub closed_reply : {i v : ℕ} {end : Call} → Ends i v end → ConnectionStorage → Reply
closed_reply {i} {v} e s = cond (eqb v s.life) (own_reply e) (ok stale)

-- an end at a slot that is not open, of any life: every table is left and nobody is woken. So it is where the link came back in
-- another slot, or has not come back.
unfoldable pub ClosedEnd : Type 0
ClosedEnd =
    (i v : ℕ) (end : Call) (e : Ends i v end) (t : ConnectionManager) → is_open (slot_at t i).state ≡ false
    → (run end t ≡ unmoved (run end t).reply t)
    × (well_formed t ≡ true → i < t.count → (run end t).reply ≡ closed_reply e (slot_at t i))

-- the same after any calls of links: a slot's life, and that it is closed, are those of the start. (The end of a lock, a grant or a
-- ticket at the link's own index may stand in its list, of any life and with any handle: `Demand3`. This is of every slot, whoever
-- ends there.)
unfoldable pub EndInTrace : Type 0
EndInTrace =
    (start : ConnectionManager) → Reached start → (trace : Trace) (i : ℕ) → i < start.count
    → (v : ℕ) (end : Call) (e : Ends i v end)
    → (v ≢ (slot_at start i).life → run end (end_table start trace) ≡ unmoved (ok stale) (end_table start trace))
    × (is_open (slot_at start i).state ≡ false
    → run end (end_table start trace) ≡ unmoved (closed_reply e (slot_at start i)) (end_table start trace))

-- ---- beside the Rust

-- the older rule of a lock and a grant: at the live slot of the handle, if any
abbrev pub by_handle : ℕ → (ℕ → ConnectionStorage → Local) → ConnectionManager → Outcome
by_handle h at t = outcome (fits by_live h) (ok []) (λ j. at j (slot_at t j)) t

-- no other open slot has slot i's handle
abbrev pub OnlyHandle : ConnectionManager → ℕ → Type 0
OnlyHandle t i = (j : ℕ) → Link t j → (slot_at t j).handle ≡ (slot_at t i).handle → j ≡ i

-- at an open link whose handle is not repeated, and in its life, an end is the older one by the link's handle; a ticket's, in the
-- slot's life, is the older one in every table. The comparison with the Rust rests on this.
unfoldable pub AsByHandle : Type 0
AsByHandle =
    ((t : ConnectionManager) → Reached t → (i : ℕ) → Link t i → OnlyHandle t i → (h : ℕ)
    → (run (on_link (unlock_acl_send h (slot_at t i).life) i) t ≡ by_handle (slot_at t i).handle unlocked t)
    × ((n : ℕ) → run (on_link (grant_end h (slot_at t i).life n) i) t ≡ by_handle (slot_at t i).handle (grant_ended n) t))
    × ((t : ConnectionManager) (i h : ℕ) (r : DisconnectReason)
    → run (on_link (confirm h (slot_at t i).life r) i) t
    ≡ outcome (fits by_index i) (refusal Refusal.Index) (λ j. confirmed r (slot_at t j)) t)
