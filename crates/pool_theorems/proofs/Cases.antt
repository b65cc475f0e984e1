-- Cases of `PoolBalance`, `PoolWaits`, `PoolTurns` and `ClosedIdle`, so that none of their hypotheses is empty; a table that is sound
-- and not reached; and what the pool does not promise. Assumes nothing.
use Rattle.std.specs.Prelude.{ℕ, ◌+◌, ◌≤◌, ◌≡◌, refl, Bool, true, false, List, [], ◌∷◌, ◌++◌, map, replicate}
use Rattle.std.proofs.Common.{sym, arith}
use Rattle.std.proofs.lemmas.Bool.{false≢true}
use Rattle.state.specs.declared.ConnectionState.TheVariants as state
use Rattle.state.specs.declared.DisconnectReason.TheVariants.{RemoteUserTerminatedConn}
use Rattle.slot.specs.declared.Address.{Address}
use Rattle.slot.specs.declared.ConnParams.{ConnParams}
use Rattle.slot.specs.declared.PacketGrant.{PacketGrant}
use Rattle.slot.specs.declared.PoolGrant.{PoolGrant}
use Rattle.slot.specs.declared.ConnectionManager.{ConnectionManager}
use Rattle.slot.specs.declared.LeConnRole.{LeConnRole}
use Rattle.slot.specs.declared.LeConnRole.TheVariants.{Peripheral}
use Rattle.slot.specs.Fresh.{fresh_slot}
use Rattle.slot.specs.Set.{set_state, set_connections, set_pool}
use Rattle.turn.specs.Turn.{waits, with_wait, lowest_waiting}
use Rattle.model.specs.Answer.{Outcome, ok}
use Rattle.model.specs.Find.{slot_at, slots_ok, held_by, well_formed, lost_of, lowest, locate}
use Rattle.model.specs.Link.{request_handle_disconnect, poll_acquire_acl_send_lock, poll_request_to_send, disconnected}
use Rattle.model.specs.Calls.{Call, on_link, connects, poll_accept_call, get_connection_by_peer_address_call, poll_disconnecting_call, set_link_credits_call, total_lost_call, poll_request_from_pool_call, pool_confirm_sent_call, pool_grant_end_call, grant_confirm, run, put}
use Rattle.model.specs.History.{Reached, new, after, outcomes}
use Rattle.model.proofs.Laws.{formed_well}
use Rattle.model_theorems.specs.Lost.{sum}
use Rattle.model_theorems.specs.Sound.{Sound}
use Rattle.model_theorems.proofs.Reach.{reached_sound, reached_by}
use Rattle.model_theorems.proofs.Shuffled.{connect_to}
use Rattle.pool_theorems.specs.Statement.{back, held, sums, WaitsOn, grants, PoolBalance, PoolWaits, PoolTurns, ClosedIdle}
use Rattle.pool_theorems.proofs.Balance.{pool_balance}
use Rattle.pool_theorems.proofs.ReachedBalance.{reached_balance}
use Rattle.pool_theorems.proofs.Waits.{pool_waits}
use Rattle.pool_theorems.proofs.Turns.{pool_turns}
use Rattle.pool_theorems.proofs.Idle.{closed_idle}

abbrev numbers : List Call → ConnectionManager → List ℕ
numbers cs t = map (λ (o : Outcome). o.reply.number) (outcomes cs t)

-- the end of a grant of the i-th of the links 64, 65, ..
abbrev ends_grant : ℕ → ℕ → ℕ → Call
ends_grant i life k = pool_grant_end_call (record { handle = 64 + i; packets = k; index = i; life = life })

-- ---- three links, 8 packets. 66 draws 2 and 65 draws 3; then 65 asks for 4, of which 3 are free, and waits. The turn is at
-- slot 2, then 0, then 1.

abbrev first : List Call
first =
    connect_to Peripheral 64
    ∷ connect_to Peripheral 65
    ∷ connect_to Peripheral 66
    ∷ poll_request_from_pool_call 66 2
    ∷ poll_request_from_pool_call 65 3
    ∷ poll_request_from_pool_call 65 4
    ∷ []

abbrev start : ConnectionManager
start = after first (new 3 251 8).table

abbrev reached : Reached start
reached = record { slots = 3; packet_mtu = 251; packets = 8; fresh = refl; calls = first; leads = refl }

abbrev sound : Sound start
sound = reached_sound start reached

pub pool_at_start : start.pool ≡ record { packets = 8; free = 3; waiting = 2; turn = 2 }
unfolding locate well_formed slots_ok held_by lowest waits with_wait lowest_waiting
pool_at_start = refl

-- ---- `PoolBalance`: of the 3 that 65 held, one is completed and one returned; a stale end, more completed than is held, and an ask
-- above c; 64 draws 1, 66 is to wait. 65 holds and waits when it closes; it comes back, and an end of its old life is stale; it
-- draws 2, and 0.

abbrev calls : List Call
calls =
    pool_confirm_sent_call 65 1
    ∷ ends_grant 1 1 1
    ∷ ends_grant 1 0 1
    ∷ pool_confirm_sent_call 65 2
    ∷ poll_request_from_pool_call 65 9
    ∷ poll_request_from_pool_call 64 1
    ∷ poll_request_from_pool_call 66 5
    ∷ on_link (disconnected 0x13) 65
    ∷ connect_to Peripheral 65
    ∷ ends_grant 1 1 1
    ∷ poll_request_from_pool_call 65 2
    ∷ poll_request_from_pool_call 65 0
    ∷ []

pub answered : numbers calls start ≡ 0 ∷ 0 ∷ 0 ∷ 14 ∷ 13 ∷ 0 ∷ 5 ∷ 0 ∷ 0 ∷ 0 ∷ 0 ∷ 0 ∷ []
unfolding locate well_formed slots_ok held_by lowest waits with_wait lowest_waiting
answered = refl

pub summed : sums 1 calls start ≡ record { start = 3; granted = 2; completed = 1; returned = 1; brought = 1 }
unfolding locate well_formed slots_ok held_by lowest waits with_wait lowest_waiting
summed = refl

pub came_back : back (sums 1 calls start) ≤ 3 + (sums 1 calls start).granted
unfolding PoolBalance locate well_formed slots_ok held_by lowest waits with_wait lowest_waiting
came_back = ((pool_balance start sound calls).0 1 (omega arith)).0

pub balanced : (slot_at (after calls start) 1).pool_held ≡ held (sums 1 calls start)
unfolding PoolBalance locate well_formed slots_ok held_by lowest waits with_wait lowest_waiting
balanced = ((pool_balance start sound calls).0 1 (omega arith)).1

-- c stays, and 3 free packets and 1, 2 and 2 held ones make it
pub all_packets : (after calls start).pool.packets ≡ 8
unfolding PoolBalance locate well_formed slots_ok held_by lowest waits with_wait lowest_waiting
all_packets = (pool_balance start sound calls).1

pub total : (after calls start).pool.free + sum (λ i. held (sums i calls start)) 3 0 ≡ 8
unfolding PoolBalance locate well_formed slots_ok held_by lowest waits with_wait lowest_waiting
total = (pool_balance start sound calls).2

pub held_after : held (sums 0 calls start) ∷ held (sums 1 calls start) ∷ held (sums 2 calls start) ∷ [] ≡ 1 ∷ 2 ∷ 2 ∷ []
unfolding locate well_formed slots_ok held_by lowest waits with_wait lowest_waiting
held_after = refl

-- from a new table on
pub total_from_new : start.pool.free + sum (λ i. held (sums i first (new 3 251 8).table)) 3 0 ≡ 8
total_from_new = reached_balance start reached

-- ---- `PoolWaits`

abbrev waits_then : ℕ → Call → ConnectionManager → Bool
waits_then i c t = waits i (run c t).table.pool.waiting

abbrev turn_then : Call → ConnectionManager → ℕ
turn_then c t = (run c t).table.pool.turn

-- calls that leave all waits and the turn, in every table
abbrev LeavesWaits : Call → Type 0
LeavesWaits c =
    (t : ConnectionManager) → ((i : ℕ) → waits_then i c t ≡ waits i t.pool.waiting) × (turn_then c t ≡ t.pool.turn)

pub credits_leave : (c : ℕ) → LeavesWaits (set_link_credits_call c)
unfolding PoolWaits
credits_leave c = pool_waits (set_link_credits_call c)

pub total_leaves : LeavesWaits total_lost_call
unfolding PoolWaits
total_leaves = pool_waits total_lost_call

pub ticket_leaves : LeavesWaits poll_disconnecting_call
unfolding PoolWaits
ticket_leaves = pool_waits poll_disconnecting_call

pub look_up_leaves : (a : Address) → LeavesWaits (get_connection_by_peer_address_call a)
unfolding PoolWaits
look_up_leaves a = pool_waits (get_connection_by_peer_address_call a)

pub accept_leaves : (r : LeConnRole) (ps : List Address) → LeavesWaits (poll_accept_call r ps)
unfolding PoolWaits
accept_leaves r ps = pool_waits (poll_accept_call r ps)

pub connect_leaves : (h : ℕ) (a : Address) (r : LeConnRole) (p : ConnParams) → LeavesWaits (connects h a r p)
unfolding PoolWaits
connect_leaves h a r p = pool_waits (connects h a r p)

pub completion_leaves : (h k : ℕ) → LeavesWaits (pool_confirm_sent_call h k)
unfolding PoolWaits
completion_leaves h k = pool_waits (pool_confirm_sent_call h k)

pub end_leaves : (g : PoolGrant) → LeavesWaits (pool_grant_end_call g)
unfolding PoolWaits
end_leaves g = pool_waits (pool_grant_end_call g)

pub confirm_leaves : (g : PacketGrant) (n : ℕ) → LeavesWaits (grant_confirm g n)
unfolding PoolWaits
confirm_leaves g n = pool_waits (grant_confirm g n)

-- from the start, where 65 in slot 1 waits: an ask that is answered 5 begins a wait, and leaves that of 65; one that is granted
-- packets ends the wait
pub ask_waits : waits_then 2 (poll_request_from_pool_call 66 4) start ≡ true
unfolding PoolWaits locate well_formed slots_ok held_by lowest waits with_wait lowest_waiting
ask_waits = (pool_waits (poll_request_from_pool_call 66 4) start).0 2

pub other_waits_on : waits_then 1 (poll_request_from_pool_call 66 4) start ≡ true
unfolding PoolWaits locate well_formed slots_ok held_by lowest waits with_wait lowest_waiting
other_waits_on = (pool_waits (poll_request_from_pool_call 66 4) start).0 1

pub grant_ends_wait : waits_then 1 (poll_request_from_pool_call 65 3) start ≡ false
unfolding PoolWaits locate well_formed slots_ok held_by lowest waits with_wait lowest_waiting
grant_ends_wait = (pool_waits (poll_request_from_pool_call 65 3) start).0 1

-- the turn is after the slot that was granted packets; else it stays at slot 2, also where others ask in vain
pub grant_moves_turn : turn_then (poll_request_from_pool_call 66 3) start ≡ 3
unfolding PoolWaits locate well_formed slots_ok held_by lowest waits with_wait lowest_waiting
grant_moves_turn = (pool_waits (poll_request_from_pool_call 66 3) start).1

pub waiting_keeps_turn : turn_then (poll_request_from_pool_call 66 4) start ≡ 2
unfolding PoolWaits locate well_formed slots_ok held_by lowest waits with_wait lowest_waiting
waiting_keeps_turn = (pool_waits (poll_request_from_pool_call 66 4) start).1

-- asks of 0 and above c leave both, of a slot that waits and of one that does not
pub ask_of_0 :
    (waits_then 1 (poll_request_from_pool_call 65 0) start ≡ true) × (waits_then 2 (poll_request_from_pool_call 66 0) start ≡ false)
    × (turn_then (poll_request_from_pool_call 64 0) start ≡ 2)
unfolding PoolWaits locate well_formed slots_ok held_by lowest waits with_wait lowest_waiting
ask_of_0 = (
  (pool_waits (poll_request_from_pool_call 65 0) start).0 1,
  (pool_waits (poll_request_from_pool_call 66 0) start).0 2,
  (pool_waits (poll_request_from_pool_call 64 0) start).1,
)

pub ask_above_c :
    (waits_then 1 (poll_request_from_pool_call 65 9) start ≡ true) × (waits_then 2 (poll_request_from_pool_call 66 9) start ≡ false)
unfolding PoolWaits locate well_formed slots_ok held_by lowest waits with_wait lowest_waiting
ask_above_c = ((pool_waits (poll_request_from_pool_call 65 9) start).0 1, (pool_waits (poll_request_from_pool_call 66 9) start).0 2)

-- `disconnected` ends the wait of its own link
pub closing_ends_wait : waits_then 1 (on_link (disconnected 0x13) 65) start ≡ false
unfolding PoolWaits locate well_formed slots_ok held_by lowest waits with_wait lowest_waiting
closing_ends_wait = (pool_waits (on_link (disconnected 0x13) 65) start).0 1

pub other_closing : waits_then 1 (on_link (disconnected 0x13) 66) start ≡ true
unfolding PoolWaits locate well_formed slots_ok held_by lowest waits with_wait lowest_waiting
other_closing = (pool_waits (on_link (disconnected 0x13) 66) start).0 1

-- another call on the link leaves it, also one that is answered 5
pub request_waits_on : waits_then 1 (on_link (request_handle_disconnect RemoteUserTerminatedConn) 65) start ≡ true
unfolding PoolWaits locate well_formed slots_ok held_by lowest waits with_wait lowest_waiting
request_waits_on = (pool_waits (on_link (request_handle_disconnect RemoteUserTerminatedConn) 65) start).0 1

pub credits_do_not_wait : waits_then 2 (on_link (poll_request_to_send 2 1 1) 66) start ≡ false
unfolding PoolWaits locate well_formed slots_ok held_by lowest waits with_wait lowest_waiting
credits_do_not_wait = (pool_waits (on_link (poll_request_to_send 2 1 1) 66) start).0 2

-- so 65 waits on: 64 and then 65 are accepted, 64 closes, 65 is found by its peer's address, and it is the one that is to close
abbrev throughout : List Call
throughout =
    poll_accept_call Peripheral []
    ∷ poll_accept_call Peripheral []
    ∷ on_link (disconnected 0x13) 64
    ∷ get_connection_by_peer_address_call (slot_at start 1).peer_identity
    ∷ set_link_credits_call 3
    ∷ total_lost_call
    ∷ on_link (request_handle_disconnect RemoteUserTerminatedConn) 65
    ∷ poll_disconnecting_call
    ∷ []

pub throughout_answered : map (λ (o : Outcome). o.reply) (outcomes throughout start)
    ≡ ok (0 ∷ []) ∷ ok (1 ∷ []) ∷ ok [] ∷ ok (1 ∷ []) ∷ ok [] ∷ ok (0 ∷ []) ∷ ok [] ∷ ok (1 ∷ 65 ∷ 0x13 ∷ 1 ∷ []) ∷ []
unfolding locate well_formed slots_ok held_by lowest lost_of waits with_wait lowest_waiting
throughout_answered = refl

pub throughout_waits : (after throughout start).pool ≡ record { packets = 8; free = 3; waiting = 2; turn = 2 }
unfolding locate well_formed slots_ok held_by lowest waits with_wait lowest_waiting
throughout_waits = refl

-- ---- `PoolTurns`: while 65 in slot 1 waits, 66 and 64 are each granted packets once. Asks of 0 are granted between, one of them of
-- 65 itself. The last call ends the wait.

abbrev while : List Call
while =
    poll_request_from_pool_call 66 0
    ∷ poll_request_from_pool_call 66 1
    ∷ poll_request_from_pool_call 66 0
    ∷ poll_request_from_pool_call 65 0
    ∷ poll_request_from_pool_call 66 1
    ∷ poll_request_from_pool_call 64 1
    ∷ poll_request_from_pool_call 64 1
    ∷ pool_confirm_sent_call 65 3
    ∷ poll_request_from_pool_call 65 4
    ∷ []

pub while_answered : numbers while start ≡ 0 ∷ 0 ∷ 0 ∷ 0 ∷ 5 ∷ 0 ∷ 5 ∷ 0 ∷ 0 ∷ []
unfolding locate well_formed slots_ok held_by lowest waits with_wait lowest_waiting
while_answered = refl

while_waits : WaitsOn 1 while start
unfolding locate well_formed slots_ok held_by lowest waits with_wait lowest_waiting
while_waits = (refl, (refl, (refl, (refl, (refl, (refl, (refl, (refl, (refl, tt)))))))))

pub at_most_once : grants 2 while start ≤ 1
unfolding PoolTurns locate well_formed slots_ok held_by lowest waits with_wait lowest_waiting
at_most_once = pool_turns start sound 1 2 (omega arith) while while_waits

pub at_most_once_below : grants 0 while start ≤ 1
unfolding PoolTurns locate well_formed slots_ok held_by lowest waits with_wait lowest_waiting
at_most_once_below = pool_turns start sound 1 0 (omega arith) while while_waits

-- and each is granted packets once (66 three times if its asks of 0 were counted)
pub once : grants 2 while start ∷ grants 0 while start ∷ [] ≡ 1 ∷ 1 ∷ []
unfolding locate well_formed slots_ok held_by lowest waits with_wait lowest_waiting
once = refl

-- the wait is ended then
pub wait_ended : waits 1 (after while start).pool.waiting ≡ false
unfolding locate well_formed slots_ok held_by lowest waits with_wait lowest_waiting
wait_ended = refl

-- the links of the other slots close and come back while 65 waits: the slots are granted no more, though packets are free
abbrev reconnects : List Call
reconnects =
    poll_request_from_pool_call 66 3
    ∷ on_link (disconnected 0x13) 66
    ∷ connect_to Peripheral 66
    ∷ poll_request_from_pool_call 66 1
    ∷ on_link poll_acquire_acl_send_lock 64
    ∷ poll_request_from_pool_call 64 1
    ∷ on_link (disconnected 0x13) 64
    ∷ connect_to Peripheral 64
    ∷ poll_request_from_pool_call 64 1
    ∷ []

pub reconnects_answered : numbers reconnects start ≡ 0 ∷ 0 ∷ 0 ∷ 5 ∷ 0 ∷ 0 ∷ 0 ∷ 0 ∷ 5 ∷ []
unfolding locate well_formed slots_ok held_by lowest waits with_wait lowest_waiting
reconnects_answered = refl

reconnects_waits : WaitsOn 1 reconnects start
unfolding locate well_formed slots_ok held_by lowest waits with_wait lowest_waiting
reconnects_waits = (refl, (refl, (refl, (refl, (refl, (refl, (refl, (refl, (refl, tt)))))))))

pub at_most_once_in_two_lives : grants 2 reconnects start ≤ 1
unfolding PoolTurns locate well_formed slots_ok held_by lowest waits with_wait lowest_waiting
at_most_once_in_two_lives = pool_turns start sound 1 2 (omega arith) reconnects reconnects_waits

-- 66, in the last slot, waits too: 65 is granted packets once
abbrev both_wait : ConnectionManager
both_wait = after (poll_request_from_pool_call 66 1 ∷ poll_request_from_pool_call 66 1 ∷ []) start

abbrev both_reached : Reached both_wait
both_reached = reached_by (poll_request_from_pool_call 66 1 ∷ poll_request_from_pool_call 66 1 ∷ []) start both_wait refl reached

abbrev two_asks : List Call
two_asks = poll_request_from_pool_call 65 2 ∷ poll_request_from_pool_call 65 1 ∷ []

pub at_most_once_before_the_last : grants 1 two_asks both_wait ≤ 1
unfolding PoolTurns locate well_formed slots_ok held_by lowest waits with_wait lowest_waiting
at_most_once_before_the_last =
    pool_turns both_wait (reached_sound both_wait both_reached) 2 1 (omega arith) two_asks (refl, (refl, tt))

pub once_before_the_last : numbers two_asks both_wait ≡ 0 ∷ 5 ∷ []
unfolding locate well_formed slots_ok held_by lowest waits with_wait lowest_waiting
once_before_the_last = refl

-- ---- `ClosedIdle`: 65, which waits and holds 3, and 66, which holds 2, close

pub wait_and_hold :
    (waits 1 start.pool.waiting ≡ true) × ((slot_at start 1).pool_held ≡ 3) × ((slot_at start 2).pool_held ≡ 2)
unfolding locate well_formed slots_ok held_by lowest waits with_wait lowest_waiting
wait_and_hold = (refl, refl, refl)

abbrev closes : List Call
closes = on_link (disconnected 0x13) 65 ∷ on_link (disconnected 0x13) 66 ∷ []

abbrev closed : ConnectionManager
closed = after closes start

abbrev closed_reached : Reached closed
closed_reached = record { slots = 3; packet_mtu = 251; packets = 8; fresh = refl; calls = first ++ closes; leads = refl }

pub idle : (waits 1 closed.pool.waiting ≡ false) × ((slot_at closed 1).pool_held ≡ 0)
unfolding ClosedIdle locate well_formed slots_ok held_by lowest waits with_wait lowest_waiting
idle = closed_idle closed closed_reached 1 (omega arith) refl

pub idle_last : (waits 2 closed.pool.waiting ≡ false) × ((slot_at closed 2).pool_held ≡ 0)
unfolding ClosedIdle locate well_formed slots_ok held_by lowest waits with_wait lowest_waiting
idle_last = closed_idle closed closed_reached 2 (omega arith) refl

-- ---- a table that is sound and not reached, put together: slot 1 is closed, waits and holds 3. The balance and the turns are
-- promised from there too.

abbrev unreached : ConnectionManager
unreached = put start 1 (set_state (slot_at start 1) state.Disconnected)

unreached_sound : Sound unreached
unfolding locate well_formed slots_ok held_by lowest waits with_wait lowest_waiting
unreached_sound = record { places = refl; formed = formed_well unreached refl }

pub not_reached : Reached unreached → ⊥
unfolding ClosedIdle locate well_formed slots_ok held_by lowest waits with_wait lowest_waiting
not_reached r = omega (arith, (closed_idle unreached r 1 (omega arith) refl).1)

-- for its wait alone too
pub not_reached_as_it_waits : Reached unreached → ⊥
unfolding ClosedIdle locate well_formed slots_ok held_by lowest waits with_wait lowest_waiting
not_reached_as_it_waits r = false≢true (sym (closed_idle unreached r 1 (omega arith) refl).0)

-- 65 comes back to slot 1, still holds the 3, and completes 2
abbrev unreached_calls : List Call
unreached_calls = connect_to Peripheral 65 ∷ pool_confirm_sent_call 65 2 ∷ []

pub unreached_balanced : (slot_at (after unreached_calls unreached) 1).pool_held ≡ held (sums 1 unreached_calls unreached)
unfolding PoolBalance locate well_formed slots_ok held_by lowest waits with_wait lowest_waiting
unreached_balanced = ((pool_balance unreached unreached_sound unreached_calls).0 1 (omega arith)).1

pub unreached_summed : sums 1 unreached_calls unreached ≡ record { start = 3; granted = 0; completed = 2; returned = 0; brought = 0 }
unfolding locate well_formed slots_ok held_by lowest waits with_wait lowest_waiting
unreached_summed = refl

abbrev unreached_while : List Call
unreached_while = poll_request_from_pool_call 66 1 ∷ poll_request_from_pool_call 66 1 ∷ []

pub unreached_at_most_once : grants 2 unreached_while unreached ≤ 1
unfolding PoolTurns locate well_formed slots_ok held_by lowest waits with_wait lowest_waiting
unreached_at_most_once = pool_turns unreached unreached_sound 1 2 (omega arith) unreached_while (refl, (refl, tt))

pub unreached_once : grants 2 unreached_while unreached ≡ 1
unfolding locate well_formed slots_ok held_by lowest waits with_wait lowest_waiting
unreached_once = refl

-- ---- sixteen slots, put together: the last one waits, and the last grant was there. The first is granted packets once.

abbrev sixteen : ConnectionManager
sixteen =
    set_pool (set_connections (new 16 251 8).table (replicate 16 (set_state fresh_slot state.Connected)))
    (record { packets = 8; free = 8; waiting = 32768; turn = 16 })

sixteen_sound : Sound sixteen
unfolding locate well_formed slots_ok held_by lowest waits with_wait lowest_waiting
sixteen_sound = record { places = refl; formed = formed_well sixteen refl }

-- all have handle 0: an ask is at the first
abbrev asks_of_first : List Call
asks_of_first = poll_request_from_pool_call 0 1 ∷ poll_request_from_pool_call 0 1 ∷ []

pub sixteen_at_most_once : grants 0 asks_of_first sixteen ≤ 1
unfolding PoolTurns locate well_formed slots_ok held_by lowest waits with_wait lowest_waiting
sixteen_at_most_once = pool_turns sixteen sixteen_sound 15 0 (omega arith) asks_of_first (refl, (refl, tt))

pub sixteen_once : numbers asks_of_first sixteen ≡ 0 ∷ 5 ∷ []
unfolding locate well_formed slots_ok held_by lowest waits with_wait lowest_waiting
sixteen_once = refl

-- ---- what is not promised

-- That every waiter is granted some in the end: 64 asks for 2 of 3 packets where one is free, waits and does not ask again. 65 gets 5
-- for the one that is free, again and again, also when all are free. When 64 closes, 65 is granted it.
abbrev behind_calls : List Call
behind_calls = connect_to Peripheral 64 ∷ connect_to Peripheral 65 ∷ poll_request_from_pool_call 65 2 ∷ poll_request_from_pool_call 64 2 ∷ []

abbrev behind : ConnectionManager
behind = after behind_calls (new 2 251 3).table

abbrev behind_reached : Reached behind
behind_reached = record { slots = 2; packet_mtu = 251; packets = 3; fresh = refl; calls = behind_calls; leads = refl }

abbrev until_it_closes : List Call
until_it_closes =
    poll_request_from_pool_call 65 1
    ∷ poll_request_from_pool_call 65 1
    ∷ poll_request_from_pool_call 65 1
    ∷ pool_confirm_sent_call 65 2
    ∷ poll_request_from_pool_call 65 1
    ∷ on_link (disconnected 0x13) 64
    ∷ []

pub until_it_closes_lem : numbers (until_it_closes ++ (poll_request_from_pool_call 65 1 ∷ [])) behind ≡ 5 ∷ 5 ∷ 5 ∷ 0 ∷ 5 ∷ 0 ∷ 0 ∷ []
unfolding locate well_formed slots_ok held_by lowest waits with_wait lowest_waiting
until_it_closes_lem = refl

-- what is promised there
pub at_most_once_behind : grants 1 until_it_closes behind ≤ 1
unfolding PoolTurns locate well_formed slots_ok held_by lowest waits with_wait lowest_waiting
at_most_once_behind =
    pool_turns behind (reached_sound behind behind_reached) 0 1 (omega arith) until_it_closes
    (refl, (refl, (refl, (refl, (refl, (refl, tt))))))

-- the balance of these two slots; and slot 0 is closed and idle then
pub total_behind : (after until_it_closes behind).pool.free + sum (λ i. held (sums i until_it_closes behind)) 2 0 ≡ 3
unfolding PoolBalance locate well_formed slots_ok held_by lowest waits with_wait lowest_waiting
total_behind = (pool_balance behind (reached_sound behind behind_reached) until_it_closes).2

abbrev behind_closed : ConnectionManager
behind_closed = after until_it_closes behind

pub idle_of_two : (waits 0 behind_closed.pool.waiting ≡ false) × ((slot_at behind_closed 0).pool_held ≡ 0)
unfolding ClosedIdle locate well_formed slots_ok held_by lowest waits with_wait lowest_waiting
idle_of_two = closed_idle behind_closed (reached_by until_it_closes behind behind_closed refl behind_reached) 0 (omega arith) refl

-- That a slot is granted no more than once while another is open and does not wait
pub twice :
    grants 1 (poll_request_from_pool_call 65 1 ∷ poll_request_from_pool_call 65 1 ∷ [])
    (after (connect_to Peripheral 64 ∷ connect_to Peripheral 65 ∷ []) (new 2 251 3).table)
    ≡ 2
unfolding locate well_formed slots_ok held_by lowest waits with_wait lowest_waiting
twice = refl
