-- A table that demand 3 speaks of: reached, with a link in every open state and one whose list is empty, links that hold packets
-- of the pool or wait for them, and a shuffle of their calls. Each hypothesis of `Demand3` is shown of it, and the demand is
-- applied to it in two orders of the links: so none of the hypotheses is empty. Assumes nothing.
use Rattle.std.specs.Prelude.{ℕ, zero, suc, ◌+◌, ◌≡◌, refl, ◌≢◌, Bool, true, false, ◌&&◌, ◌||◌, not, eqb}
use Rattle.std.proofs.Common.{sym, ap, ◌∙◌, ⊎_elim, arith, eq-eqb, ne_eqb}
use Rattle.std.proofs.Math.Bool.{or-true}
use Rattle.std.proofs.lemmas.Bool.{false≢true}
use mathlib.Core.List.Memᴰ
use mathlib.Core.List.{List, [], ◌∷◌, Memᴰ}
use Rattle.state.specs.declared.DisconnectReason.TheVariants.{RemoteUserTerminatedConn}
use Rattle.state.specs.declared.ConnectionState.TheVariants as state
use Rattle.event_queue.specs.declared.ConnectionEvent.TheVariants.{DataLengthUpdated}
use Rattle.turn.specs.Turn.{waits, with_wait, lowest_waiting}
use Rattle.slot.specs.declared.ConnectionStorage.{ConnectionStorage}
use Rattle.slot.specs.declared.ConnectionManager.{ConnectionManager}
use Rattle.slot.specs.declared.LeConnRole.{LeConnRole}
use Rattle.slot.specs.declared.LeConnRole.TheVariants.{Central, Peripheral}
use Rattle.model.specs.Find.{slot_at, slots_ok, held_by, well_formed, lowest, locate}
use Rattle.model.specs.Link.{Op, inc_ref, request_disconnect, withdraw_disconnect, confirm, disconnected, post_handle_event, poll_acquire_acl_send_lock, unlock_acl_send, grant_end, acquire_indication_slot}
use Rattle.model.specs.Calls.{Call, on_link, connects, poll_accept_call, poll_request_from_pool_call}
use Rattle.model.specs.History.{Reached, new, after}
use Rattle.model.specs.Demand3.{Link, OwnHandles, Trace, of_link, Lists, OnLinks, Shuffle, Distinct, Order, alone, answers, end_table, in_turn, Demand3}
use Rattle.model.proofs.Laws.{and_left, and_right}
use Rattle.model_theorems.specs.Lost.{SlotAlone}
use Rattle.model_theorems.proofs.Order.{demand3, slot_alone}

-- ---- the table

abbrev pub connect_to : LeConnRole → ℕ → Call
connect_to role h =
    connects h
    (record { kind = 0; addr = record { 0 = 1; 1 = 2; 2 = 3; 3 = 4; 4 = 5; 5 = 6 } })
    role
    (record { conn_interval = 30000; peripheral_latency = 0; supervision_timeout = 2000000 })

-- five links: the first is left Connecting, the others are accepted. Of the pool's 5 packets the second and the fifth draw 2 each;
-- then both wait for more, and so does the fourth. Then two are asked to close, one of them confirmed.
abbrev pub five_links : List Call
five_links =
    connect_to Central 64
    ∷ connect_to Peripheral 65
    ∷ connect_to Peripheral 66
    ∷ connect_to Peripheral 67
    ∷ connect_to Peripheral 68
    ∷ poll_accept_call Peripheral []
    ∷ poll_accept_call Peripheral []
    ∷ poll_accept_call Peripheral []
    ∷ poll_accept_call Peripheral []
    ∷ poll_request_from_pool_call 65 2
    ∷ poll_request_from_pool_call 68 2
    ∷ poll_request_from_pool_call 65 2
    ∷ poll_request_from_pool_call 68 2
    ∷ poll_request_from_pool_call 67 1
    ∷ on_link (request_disconnect RemoteUserTerminatedConn) 2
    ∷ on_link (request_disconnect RemoteUserTerminatedConn) 3
    ∷ on_link (confirm 67 1 RemoteUserTerminatedConn) 3
    ∷ []

abbrev pub start : ConnectionManager
start = after five_links (new 6 251 5).table

pub reached : Reached start
reached = record { slots = 6; packet_mtu = 251; packets = 5; fresh = refl; calls = five_links; leads = refl }

-- every open state is there, and a slot that is no link
connecting : (slot_at start 0).state ≡ state.Connecting
unfolding locate well_formed slots_ok held_by lowest waits with_wait lowest_waiting
connecting = refl

connected : (slot_at start 1).state ≡ state.Connected
unfolding locate well_formed slots_ok held_by lowest waits with_wait lowest_waiting
connected = refl

requesting : (slot_at start 2).state ≡ state.DisconnectRequest RemoteUserTerminatedConn
unfolding locate well_formed slots_ok held_by lowest waits with_wait lowest_waiting
requesting = refl

disconnecting : (slot_at start 3).state ≡ state.Disconnecting RemoteUserTerminatedConn
unfolding locate well_formed slots_ok held_by lowest waits with_wait lowest_waiting
disconnecting = refl

closed : (slot_at start 5).state ≡ state.Disconnected
unfolding locate well_formed slots_ok held_by lowest waits with_wait lowest_waiting
closed = refl

-- the pool is in use: one packet is free, two links hold the others, and the second, fourth and fifth wait
in_use : start.pool ≡ record { packets = 5; free = 1; waiting = 2 + 8 + 16; turn = 5 }
unfolding locate well_formed slots_ok held_by lowest waits with_wait lowest_waiting
in_use = refl

holding : ((slot_at start 1).pool_held ≡ 2) × ((slot_at start 4).pool_held ≡ 2)
unfolding locate well_formed slots_ok held_by lowest waits with_wait lowest_waiting
holding = (refl, refl)

-- each link has a handle of its own; the sixth slot is no link
handles : (i : ℕ) → Link start i → (slot_at start i).handle ≡ 64 + i
unfolding locate well_formed slots_ok held_by lowest waits with_wait lowest_waiting
handles zero l = refl
handles (suc zero) l = refl
handles (suc (suc zero)) l = refl
handles (suc (suc (suc zero))) l = refl
handles (suc (suc (suc (suc zero)))) l = refl
handles (suc (suc (suc (suc (suc zero))))) l = absurd (false≢true l.1)
handles (suc (suc (suc (suc (suc (suc i)))))) l = absurd (omega (arith, l.0))

pub own : OwnHandles start
own i j l m p = omega (arith, p, handles i l, handles j m)

-- ---- the lists, and a shuffle of them: accepted, Pending, and refused after the link is closed; a lock's end that is stale and a
-- grant's at the closed slot, each with the other link's handle. Of the two links that close, one holds packets of the pool, and
-- both wait.

abbrev pub lists : Lists
lists zero = poll_acquire_acl_send_lock ∷ poll_acquire_acl_send_lock ∷ unlock_acl_send 65 0 ∷ []
lists (suc zero) = disconnected 0x13 ∷ poll_acquire_acl_send_lock ∷ grant_end 64 1 5 ∷ []
lists (suc (suc zero)) = acquire_indication_slot ∷ inc_ref ∷ []
lists (suc (suc (suc zero))) = disconnected 0x16 ∷ []
lists (suc (suc (suc (suc i)))) = []

abbrev pub shuffle : Trace
shuffle =
    (0, poll_acquire_acl_send_lock)
    ∷ (2, acquire_indication_slot)
    ∷ (1, disconnected 0x13)
    ∷ (3, disconnected 0x16)
    ∷ (0, poll_acquire_acl_send_lock)
    ∷ (1, poll_acquire_acl_send_lock)
    ∷ (0, unlock_acl_send 65 0)
    ∷ (2, inc_ref)
    ∷ (1, grant_end 64 1 5)
    ∷ []

pub on : OnLinks start lists
unfolding locate well_formed slots_ok held_by lowest waits with_wait lowest_waiting
on zero n = (omega arith, refl)
on (suc zero) n = (omega arith, refl)
on (suc (suc zero)) n = (omega arith, refl)
on (suc (suc (suc zero))) n = (omega arith, refl)
on (suc (suc (suc (suc i)))) n = absurd (n refl)

pub shuffles : Shuffle lists shuffle
shuffles zero = refl
shuffles (suc zero) = refl
shuffles (suc (suc zero)) = refl
shuffles (suc (suc (suc zero))) = refl
shuffles (suc (suc (suc (suc i)))) =
    simp (ne_eqb (suc (suc (suc (suc i)))) 0 (omega arith), ne_eqb (suc (suc (suc (suc i)))) 1 (omega arith), ne_eqb (suc (suc (suc (suc i)))) 2 (omega arith), ne_eqb (suc (suc (suc (suc i)))) 3 (omega arith))

-- ---- two orders of the links, the one with the empty list among them

abbrev occurs : ℕ → List ℕ → Bool
occurs i [] = false
occurs i (j ∷ js) = eqb i j || occurs i js

abbrev apart : List ℕ → Bool
apart [] = true
apart (i ∷ is) = not (occurs i is) && apart is

occurs_in : (i : ℕ) (js : List ℕ) → Memᴰ i js → occurs i js ≡ true
occurs_in i [] m = absurd (Memᴰ.not-nil m)
occurs_in i (j ∷ js) m = ⊎_elim (λ p. rw (eq-eqb i j p)) (λ n. rw (occurs_in i js n) (or-true (eqb i j))) (Memᴰ.cases_cons m)

distinct : (is : List ℕ) → apart is ≡ true → Distinct is
distinct [] e = tt
distinct (i ∷ is) e = (
  λ m. false≢true (sym (ap not (occurs_in i is m)) ∙ and_left (not (occurs i is)) (apart is) e),
  distinct is (and_right (not (occurs i is)) (apart is) e),
)

abbrev upwards : List ℕ
upwards = 0 ∷ 1 ∷ 2 ∷ 3 ∷ 4 ∷ []

abbrev pub downwards : List ℕ
downwards = 4 ∷ 3 ∷ 2 ∷ 1 ∷ 0 ∷ []

order_upwards : Order lists upwards
order_upwards = (distinct upwards refl, every)
  where
    every : (i : ℕ) → lists i ≢ [] → Memᴰ i upwards
    every zero n = Memᴰ.head refl
    every (suc zero) n = Memᴰ.tail (Memᴰ.head refl)
    every (suc (suc zero)) n = Memᴰ.tail (Memᴰ.tail (Memᴰ.head refl))
    every (suc (suc (suc zero))) n = Memᴰ.tail (Memᴰ.tail (Memᴰ.tail (Memᴰ.head refl)))
    every (suc (suc (suc (suc i)))) n = absurd (n refl)

pub order_downwards : Order lists downwards
order_downwards = (distinct downwards refl, every)
  where
    every : (i : ℕ) → lists i ≢ [] → Memᴰ i downwards
    every zero n = Memᴰ.tail (Memᴰ.tail (Memᴰ.tail (Memᴰ.tail (Memᴰ.head refl))))
    every (suc zero) n = Memᴰ.tail (Memᴰ.tail (Memᴰ.tail (Memᴰ.head refl)))
    every (suc (suc zero)) n = Memᴰ.tail (Memᴰ.tail (Memᴰ.head refl))
    every (suc (suc (suc zero))) n = Memᴰ.tail (Memᴰ.head refl)
    every (suc (suc (suc (suc i)))) n = absurd (n refl)

-- ---- so this holds of it

pub alone_too : (i : ℕ) → of_link i (answers start shuffle) ≡ of_link i (answers start (alone lists i))
unfolding Demand3
alone_too = (demand3 start reached own lists on shuffle shuffles).0

abbrev AsInTurn : List ℕ → Type 0
AsInTurn links =
    ((i : ℕ) → of_link i (answers start shuffle) ≡ of_link i (answers start (in_turn lists links)))
    × (end_table start shuffle ≡ end_table start (in_turn lists links))

pub as_upwards : AsInTurn upwards
unfolding Demand3
as_upwards = (demand3 start reached own lists on shuffle shuffles).1 upwards order_upwards

pub as_downwards : AsInTurn downwards
unfolding Demand3
as_downwards = (demand3 start reached own lists on shuffle shuffles).1 downwards order_downwards

-- the packets of the link that closed came back, and of the waits only that of the link with the empty list is left
pub shared_by_all : (end_table start shuffle).pool ≡ record { packets = 5; free = 3; waiting = 16; turn = 5 }
unfolding locate well_formed slots_ok held_by lowest waits with_wait lowest_waiting
shared_by_all = ap (λ (t : ConnectionManager). t.pool) as_downwards.1

-- and of the slot of the link whose list is empty
pub slot_kept : slot_at (end_table start shuffle) 4 ≡ slot_at start 4
unfolding SlotAlone locate well_formed slots_ok held_by lowest waits with_wait lowest_waiting
slot_kept = slot_alone start reached own lists on shuffle shuffles 4 (omega arith, refl)

-- ---- other lists: the second link loses an event by a post and one by `disconnected`, as its list alone would; the third, which
-- requests, is Connected again

abbrev pub post : Op
post = post_handle_event (DataLengthUpdated 1 2 3 4)

abbrev lossy_lists : Lists
lossy_lists zero = []
lossy_lists (suc zero) = post ∷ post ∷ post ∷ post ∷ post ∷ disconnected 8 ∷ []
lossy_lists (suc (suc zero)) = withdraw_disconnect ∷ inc_ref ∷ []
lossy_lists (suc (suc (suc i))) = []

abbrev lossy : Trace
lossy = (1, post) ∷ (1, post) ∷ (2, withdraw_disconnect) ∷ (1, post) ∷ (2, inc_ref) ∷ (1, post) ∷ (1, post) ∷ (1, disconnected 8) ∷ []

lossy_on : OnLinks start lossy_lists
unfolding locate well_formed slots_ok held_by lowest waits with_wait lowest_waiting
lossy_on zero n = absurd (n refl)
lossy_on (suc zero) n = (omega arith, refl)
lossy_on (suc (suc zero)) n = (omega arith, refl)
lossy_on (suc (suc (suc i))) n = absurd (n refl)

lossy_shuffles : Shuffle lossy_lists lossy
lossy_shuffles zero = refl
lossy_shuffles (suc zero) = refl
lossy_shuffles (suc (suc zero)) = refl
lossy_shuffles (suc (suc (suc i))) = simp (ne_eqb (suc (suc (suc i))) 1 (omega arith), ne_eqb (suc (suc (suc i))) 2 (omega arith))

pub two_lost_alone : (slot_at (end_table start lossy) 1).lost ≡ 2
unfolding SlotAlone locate well_formed slots_ok held_by lowest waits with_wait lowest_waiting
two_lost_alone =
    ap (λ (s : ConnectionStorage). s.lost)
    (slot_alone start reached own lossy_lists lossy_on lossy lossy_shuffles 1 (omega arith, refl))

pub withdrawn_alone : (slot_at (end_table start lossy) 2).state ≡ state.Connected
unfolding SlotAlone locate well_formed slots_ok held_by lowest waits with_wait lowest_waiting
withdrawn_alone =
    ap (λ (s : ConnectionStorage). s.state)
    (slot_alone start reached own lossy_lists lossy_on lossy lossy_shuffles 2 (omega arith, refl))
