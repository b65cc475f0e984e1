-- Cases of each statement of Life.antt, so that none of their hypotheses is empty: a link that comes back under its handle, in its
-- old slot and in another; the table of Shuffled.antt; and one in which a handle is open twice. Assumes nothing.
use Rattle.std.specs.Prelude.{ℕ, zero, suc, ◌^◌, ◌<◌, ◌≡◌, refl, ◌≢◌, List, [], ◌∷◌, ◌++◌}
use Rattle.std.proofs.Common.{arith}
use Rattle.state.specs.declared.DisconnectReason.TheVariants.{AuthenticationFailure, RemoteUserTerminatedConn}
use Rattle.turn.specs.Turn.{waits, with_wait, lowest_waiting}
use Rattle.slot.specs.declared.ConnectionManager.{ConnectionManager}
use Rattle.slot.specs.declared.LeConnRole.TheVariants.{Peripheral}
use Rattle.model.specs.Answer.{Refusal, ok, refusal, unmoved}
use Rattle.model.specs.Find.{slot_at, slots_ok, held_by, well_formed, lowest, locate, fits, by_index}
use Rattle.model.specs.Link.{inc_ref, dec_ref, disconnected, poll_acquire_acl_send_lock, unlock_acl_send, poll_request_to_send, grant_end, confirm, stale, unlocked, grant_ended, confirmed}
use Rattle.model.specs.Calls.{Call, on_link, poll_accept_call, poll_disconnecting_call, set_link_credits_call, poll_request_from_pool_call, pool_grant_end_call, run, outcome}
use Rattle.model.specs.History.{Reached, new, no_table, after}
use Rattle.model.specs.Demand3.{Trace, end_table}
use Rattle.life_theorems.specs.Life.{HandsOut, Ends, OnlyHandle, by_handle, LifeCounts, HandedOut, StaleEnd, LateEnd, ClosedEnd, EndInTrace, AsByHandle}
use Rattle.life_theorems.proofs.Lives.{life_counts}
use Rattle.life_theorems.proofs.Ended.{handed_out, stale_end, late_end, closed_end, end_in_trace, as_by_handle}
use Rattle.model_theorems.proofs.Shuffled.{connect_to, start, reached, shuffle}

-- ---- "A motor drops off and comes back under the same handle": in its old slot

-- the second of two links, with credits
abbrev calls : List Call
calls = set_link_credits_call 3 ∷ connect_to Peripheral 63 ∷ connect_to Peripheral 64 ∷ poll_accept_call Peripheral [] ∷ poll_accept_call Peripheral [] ∷ []

abbrev linked : ConnectionManager
linked = after calls (new 3 251 4).table

linked_reached : Reached linked
linked_reached = record { slots = 3; packet_mtu = 251; packets = 4; fresh = refl; calls = calls; leads = refl }

-- it drops off, the last reference goes, and it comes back
abbrev back : ℕ → ℕ → List Call
back h i = on_link (disconnected 8) h ∷ on_link dec_ref i ∷ connect_to Peripheral h ∷ []

abbrev Late : Call → ConnectionManager → List Call → Call → Type 0
Late c t cs end = run end (after cs (run c t).table) ≡ unmoved (ok stale) (after cs (run c t).table)

-- twice, and then more calls
abbrev back_twice : List Call
back_twice = back 64 1 ++ (back 64 1 ++ (on_link inc_ref 1 ∷ []))

pub late_lock : Late (on_link poll_acquire_acl_send_lock 64) linked back_twice (on_link (unlock_acl_send 64 1) 1)
unfolding LateEnd locate well_formed slots_ok held_by lowest waits with_wait lowest_waiting
late_lock =
    late_end linked linked_reached _ _ 1 1 (HandsOut.a_lock 64 64 1 1) refl back_twice (omega arith) (on_link (unlock_acl_send 64 1) 1) (Ends.a_lock 64)

-- drawn by a lock of another slot and life
pub late_grant_lem : Late (on_link (poll_request_to_send 0 7 2) 64) linked (back 64 1) (on_link (grant_end 64 1 2) 1)
unfolding LateEnd locate well_formed slots_ok held_by lowest waits with_wait lowest_waiting
late_grant_lem =
    late_end linked linked_reached (on_link (poll_request_to_send 0 7 2) 64) _ 1 1 (HandsOut.a_grant 64 0 7 2 64 2 1 1) refl (back 64 1) (omega arith)
    (on_link (grant_end 64 1 2) 1) (Ends.a_grant 64 2)

-- the ticket of the third slot of Shuffled's table, which requests
pub late_ticket : Late poll_disconnecting_call start (back 66 2) (on_link (confirm 66 1 RemoteUserTerminatedConn) 2)
unfolding LateEnd locate well_formed slots_ok held_by lowest waits with_wait lowest_waiting
late_ticket =
    late_end start reached _ _ 2 1 (HandsOut.a_ticket 2 66 0x13 1) refl (back 66 2) (omega arith)
    (on_link (confirm 66 1 RemoteUserTerminatedConn) 2) (Ends.a_ticket 66 RemoteUserTerminatedConn)

-- a pool grant of two packets: none of the link's new ones come back by it
abbrev pool_end : ℕ → ℕ → ℕ → ℕ → Call
pool_end handle packets index life = pool_grant_end_call (record { handle = handle; packets = packets; index = index; life = life })

abbrev back_and_asks : List Call
back_and_asks = back 64 1 ++ (poll_request_from_pool_call 64 3 ∷ [])

pub late_pool_grant : Late (poll_request_from_pool_call 64 2) linked back_and_asks (pool_end 64 2 1 1)
unfolding LateEnd locate well_formed slots_ok held_by lowest waits with_wait lowest_waiting
late_pool_grant =
    late_end linked linked_reached (poll_request_from_pool_call 64 2) _ 1 1 (HandsOut.a_pool_grant 64 2 64 2 1 1) refl back_and_asks (omega arith)
    (pool_end 64 2 1 1) (Ends.a_pool_grant 64 2)

-- ---- until then it carries the slot's life, and its end is not stale

pub lock_of_its_life : (t : ConnectionManager) (v : ℕ) → (run (on_link poll_acquire_acl_send_lock 64) t).reply ≡ ok (64 ∷ 1 ∷ v ∷ [])
    → v ≡ (slot_at t 1).life
unfolding HandedOut
lock_of_its_life t v e = (handed_out t (on_link poll_acquire_acl_send_lock 64) _ 1 v (HandsOut.a_lock 64 64 1 v) e).1

pub lock_not_stale :
    (run (on_link (unlock_acl_send 64 1) 1) (run (on_link inc_ref 1) (run (on_link poll_acquire_acl_send_lock 64) linked).table).table).reply
    ≢ ok stale
unfolding HandedOut locate well_formed slots_ok held_by lowest waits with_wait lowest_waiting
lock_not_stale =
    (handed_out linked (on_link poll_acquire_acl_send_lock 64) _ 1 1 (HandsOut.a_lock 64 64 1 1) refl).2 linked_reached (on_link inc_ref 1 ∷ []) refl
    (on_link (unlock_acl_send 64 1) 1) (Ends.a_lock 64)

pub pool_grant_not_stale :
    (run (pool_end 64 2 1 1) (run (on_link inc_ref 1) (run (poll_request_from_pool_call 64 2) linked).table).table).reply ≢ ok stale
unfolding HandedOut locate well_formed slots_ok held_by lowest waits with_wait lowest_waiting
pool_grant_not_stale =
    (handed_out linked (poll_request_from_pool_call 64 2) _ 1 1 (HandsOut.a_pool_grant 64 2 64 2 1 1) refl).2 linked_reached (on_link inc_ref 1 ∷ []) refl
    (pool_end 64 2 1 1) (Ends.a_pool_grant 64 2)

-- taken twice
abbrev again : ConnectionManager
again = after (calls ++ back 64 1) (new 3 251 4).table

abbrev again_reached : Reached again
again_reached = record { slots = 3; packet_mtu = 251; packets = 4; fresh = refl; calls = calls ++ back 64 1; leads = refl }

pub second_life : (slot_at again 1).life ≡ 2
unfolding LifeCounts locate well_formed slots_ok held_by lowest waits with_wait lowest_waiting
second_life = (life_counts again again_reached 1 (omega arith)).0

pub fits_32 : (slot_at again 1).life < 2 ^ 32
unfolding LifeCounts locate well_formed slots_ok held_by lowest waits with_wait lowest_waiting
fits_32 = (life_counts again again_reached 1 (omega arith)).1

-- ---- Stale, on Shuffled's table, whose second slot is in its first life: of a life before it, with the first link's handle; the
-- table without slots is left too

pub stale_left : run (on_link (unlock_acl_send 64 0) 1) start ≡ unmoved (run (on_link (unlock_acl_send 64 0) 1) start).reply start
unfolding StaleEnd locate well_formed slots_ok held_by lowest waits with_wait lowest_waiting
stale_left = (stale_end 1 0 (on_link (unlock_acl_send 64 0) 1) (Ends.a_lock 64) start).0 (omega arith)

pub bad_left : run (on_link (grant_end 64 1 5) 1) no_table ≡ unmoved (run (on_link (grant_end 64 1 5) 1) no_table).reply no_table
unfolding StaleEnd locate well_formed slots_ok held_by lowest waits with_wait lowest_waiting
bad_left = (stale_end 1 1 (on_link (grant_end 64 1 5) 1) (Ends.a_grant 64 5) no_table).0 (omega arith)

pub stale_said : (run (on_link (confirm 64 0 AuthenticationFailure) 1) start).reply ≡ ok stale
unfolding StaleEnd locate well_formed slots_ok held_by lowest waits with_wait lowest_waiting
stale_said =
    (stale_end 1 0 (on_link (confirm 64 0 AuthenticationFailure) 1) (Ends.a_ticket 64 AuthenticationFailure) start).1 refl (omega arith) (omega arith)

-- a life that is not yet
pub later_said : (run (on_link (unlock_acl_send 64 2) 1) start).reply ≡ ok stale
unfolding StaleEnd locate well_formed slots_ok held_by lowest waits with_wait lowest_waiting
later_said = (stale_end 1 2 (on_link (unlock_acl_send 64 2) 1) (Ends.a_lock 64) start).1 refl (omega arith) (omega arith)

-- the slot holds two packets of the pool, and none of them comes back
pub stale_pool_left : run (pool_end 64 2 1 0) start ≡ unmoved (run (pool_end 64 2 1 0) start).reply start
unfolding StaleEnd locate well_formed slots_ok held_by lowest waits with_wait lowest_waiting
stale_pool_left = (stale_end 1 0 (pool_end 64 2 1 0) (Ends.a_pool_grant 64 2) start).0 (omega arith)

-- who hears Stale knows that the life is another one
pub told_apart : 0 ≢ (slot_at start 1).life
unfolding StaleEnd locate well_formed slots_ok held_by lowest waits with_wait lowest_waiting
told_apart = ((stale_end 1 0 (on_link (grant_end 64 0 0) 1) (Ends.a_grant 64 0) start).2 refl).2

-- ---- it comes back in another slot, since the old one still has a reference: the late end does nothing

abbrev moves : List Call
moves = calls ++ (on_link (disconnected 8) 64 ∷ connect_to Peripheral 64 ∷ on_link poll_acquire_acl_send_lock 64 ∷ [])

abbrev elsewhere : ConnectionManager
elsewhere = after moves (new 3 251 4).table

elsewhere_reached : Reached elsewhere
elsewhere_reached = record { slots = 3; packet_mtu = 251; packets = 4; fresh = refl; calls = moves; leads = refl }

pub nothing_left :
    run (on_link (unlock_acl_send 64 1) 1) elsewhere ≡ unmoved (run (on_link (unlock_acl_send 64 1) 1) elsewhere).reply elsewhere
unfolding ClosedEnd locate well_formed slots_ok held_by lowest waits with_wait lowest_waiting
nothing_left = (closed_end 1 1 (on_link (unlock_acl_send 64 1) 1) (Ends.a_lock 64) elsewhere refl).0

pub nothing_said : (run (on_link (unlock_acl_send 64 1) 1) elsewhere).reply ≡ ok []
unfolding ClosedEnd locate well_formed slots_ok held_by lowest waits with_wait lowest_waiting
nothing_said = (closed_end 1 1 (on_link (unlock_acl_send 64 1) 1) (Ends.a_lock 64) elsewhere refl).1 refl (omega arith)

-- a pool grant's end is refused with 2
pub refused_said : (run (pool_end 64 2 1 1) elsewhere).reply ≡ refusal Refusal.NotFound
unfolding ClosedEnd locate well_formed slots_ok held_by lowest waits with_wait lowest_waiting
refused_said = (closed_end 1 1 (pool_end 64 2 1 1) (Ends.a_pool_grant 64 2) elsewhere refl).1 refl (omega arith)

-- the table without slots is left too
pub closed_bad : run (on_link (confirm 64 0 AuthenticationFailure) 1) no_table ≡ unmoved (refusal Refusal.Setup) no_table
unfolding ClosedEnd locate well_formed slots_ok held_by lowest waits with_wait lowest_waiting
closed_bad = (closed_end 1 0 (on_link (confirm 64 0 AuthenticationFailure) 1) (Ends.a_ticket 64 AuthenticationFailure) no_table refl).0

-- ---- after calls of links: a stale end at an open slot, of an earlier life and of a later one, and ends at the closed slot of the
-- link that came back elsewhere

pub stale_after : run (on_link (unlock_acl_send 99 0) 1) (end_table start shuffle) ≡ unmoved (ok stale) (end_table start shuffle)
unfolding EndInTrace locate well_formed slots_ok held_by lowest waits with_wait lowest_waiting
stale_after = (end_in_trace start reached shuffle 1 (omega arith) 0 (on_link (unlock_acl_send 99 0) 1) (Ends.a_lock 99)).0 (omega arith)

pub later_after : run (on_link (confirm 99 2 AuthenticationFailure) 1) (end_table start shuffle) ≡ unmoved (ok stale) (end_table start shuffle)
unfolding EndInTrace locate well_formed slots_ok held_by lowest waits with_wait lowest_waiting
later_after =
    (end_in_trace start reached shuffle 1 (omega arith) 2 (on_link (confirm 99 2 AuthenticationFailure) 1) (Ends.a_ticket 99 AuthenticationFailure)).0 (omega arith)

abbrev others : Trace
others = (0, poll_acquire_acl_send_lock) ∷ (2, unlock_acl_send 64 0) ∷ []

pub nothing_after : run (on_link (grant_end 64 1 7) 1) (end_table elsewhere others) ≡ unmoved (ok []) (end_table elsewhere others)
unfolding EndInTrace locate well_formed slots_ok held_by lowest waits with_wait lowest_waiting
nothing_after = (end_in_trace elsewhere elsewhere_reached others 1 (omega arith) 1 (on_link (grant_end 64 1 7) 1) (Ends.a_grant 64 7)).1 refl

pub refused_after : run (pool_end 64 2 1 1) (end_table elsewhere others) ≡ unmoved (refusal Refusal.NotFound) (end_table elsewhere others)
unfolding EndInTrace locate well_formed slots_ok held_by lowest waits with_wait lowest_waiting
refused_after = (end_in_trace elsewhere elsewhere_reached others 1 (omega arith) 1 (pool_end 64 2 1 1) (Ends.a_pool_grant 64 2)).1 refl

-- ---- beside the Rust: the third of three links, where the first two share a handle; and a ticket's slot, which requests

abbrev twins : List Call
twins = connect_to Peripheral 64 ∷ connect_to Peripheral 64 ∷ connect_to Peripheral 65 ∷ []

abbrev doubled : ConnectionManager
doubled = after twins (new 3 251 4).table

doubled_reached : Reached doubled
doubled_reached = record { slots = 3; packet_mtu = 251; packets = 4; fresh = refl; calls = twins; leads = refl }

only : OnlyHandle doubled 2
unfolding locate well_formed slots_ok held_by lowest waits with_wait lowest_waiting
only zero l p = absurd (omega (arith, p))
only (suc zero) l p = absurd (omega (arith, p))
only (suc (suc zero)) l p = refl
only (suc (suc (suc j))) l p = absurd (omega (arith, l.0))

pub unlock_before : run (on_link (unlock_acl_send 99 1) 2) doubled ≡ by_handle 65 unlocked doubled
unfolding AsByHandle locate well_formed slots_ok held_by lowest waits with_wait lowest_waiting
unlock_before = (as_by_handle.0 doubled doubled_reached 2 (omega arith, refl) only 99).0

pub grant_before : run (on_link (grant_end 99 1 7) 2) doubled ≡ by_handle 65 (grant_ended 7) doubled
unfolding AsByHandle locate well_formed slots_ok held_by lowest waits with_wait lowest_waiting
grant_before = (as_by_handle.0 doubled doubled_reached 2 (omega arith, refl) only 99).1 7

pub ticket_before :
    run (on_link (confirm 66 1 AuthenticationFailure) 2) start
    ≡ outcome (fits by_index 2) (refusal Refusal.Index) (λ j. confirmed AuthenticationFailure (slot_at start j)) start
unfolding AsByHandle locate well_formed slots_ok held_by lowest waits with_wait lowest_waiting
ticket_before = as_by_handle.1 start 2 66 AuthenticationFailure
