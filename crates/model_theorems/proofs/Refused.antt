-- Calls that `Refusals` speaks of: one refused with 1, one with 4, a lock, an ask of the pool and a poll refused with 5. Each clause is applied, so
-- that none of them is empty. Assumes nothing.
use Rattle.std.specs.Prelude.{ℕ, ◌≡◌, refl, true, List, [], ◌∷◌, ◌++◌, replicate}
use Rattle.std.proofs.Common.{sym, ⊎_elim, arith}
use Rattle.std.proofs.lemmas.Bool.{false≢true}
use Rattle.event_queue.specs.declared.ConnectionEvent.TheVariants.{ConnectionParamsUpdated}
use Rattle.turn.specs.Turn.{waits, with_wait, lowest_waiting}
use Rattle.slot.specs.declared.ConnectionManager.{ConnectionManager}
use Rattle.slot.specs.declared.LeConnRole.TheVariants.{Peripheral}
use Rattle.model.specs.Find.{slots_ok, held_by, well_formed, lowest, locate}
use Rattle.model.specs.Link.{Op, inc_ref, post_handle_event, next, poll_acquire_acl_send_lock}
use Rattle.model.specs.Calls.{Call, on_link, connects, poll_accept_call, poll_request_from_pool_call, run}
use Rattle.model.specs.History.{new, after}
use Rattle.model_theorems.specs.Refusals.{sends, LeftBy4, LeftByBlocked, LeftByWait, LeftByPending, Refusals}
use Rattle.model_theorems.proofs.Left.{refusals}

-- one link, accepted
abbrev one : List Call
one =
    connects 64
    (record { kind = 0; addr = record { 0 = 1; 1 = 2; 2 = 3; 3 = 4; 4 = 5; 5 = 6 } })
    Peripheral
    (record { conn_interval = 30000; peripheral_latency = 0; supervision_timeout = 2000000 })
    ∷ poll_accept_call Peripheral []
    ∷ []

abbrev with : List Call → ConnectionManager
with cs = after (one ++ cs) (new 1 251 4).table

abbrev updated : Call
updated = on_link (post_handle_event (ConnectionParamsUpdated 0 40000 2000000)) 64

abbrev lock : Call
lock = on_link poll_acquire_acl_send_lock 64

-- of the pool's 4 packets
abbrev ask : Call
ask = poll_request_from_pool_call 64 3

-- an ask of the pool is no call on a link
no_ask : (op : Op) (h g k : ℕ) → on_link op h ≡ poll_request_from_pool_call g k → ⊥
no_ask op h g k p = let z : ◌≡◌ {A = ℕ} 0 1 = cc in omega arith

abbrev left : Call → List Call → ConnectionManager
left c cs = (run c (with cs)).table

-- 1, and the table is as it was
pub index_left : left (on_link inc_ref 1) [] ≡ with []
unfolding Refusals locate well_formed slots_ok held_by lowest waits with_wait lowest_waiting
index_left = (refusals (on_link inc_ref 1) (with [])).unchanged (omega arith) (omega arith) (omega arith)

-- 4, a fifth event
pub full_left : LeftBy4 updated (with (replicate 4 updated)) 4 (left updated (replicate 4 updated))
unfolding Refusals locate well_formed slots_ok held_by lowest waits with_wait lowest_waiting
full_left = (refusals updated (with (replicate 4 updated))).out_of_memory refl

-- 5, a lock that is held: counted
pub lock_left : LeftByBlocked lock (with (lock ∷ [])) 5 (left lock (lock ∷ []))
unfolding Refusals locate well_formed slots_ok held_by lowest waits with_wait lowest_waiting
lock_left =
    ⊎_elim (λ p. p)
    (λ q. absurd (⊎_elim (λ p. no_ask _ _ _ _ p.3) (λ p. false≢true (sym (p.0 poll_acquire_acl_send_lock 64 refl))) q))
    ((refusals lock (with (lock ∷ []))).pending refl)

-- 5, an ask of the pool where too few packets are free: counted, and the slot waits
pub ask_left : LeftByWait ask (with (ask ∷ [])) 5 (left ask (ask ∷ []))
unfolding Refusals locate well_formed slots_ok held_by lowest waits with_wait lowest_waiting
ask_left =
    ⊎_elim (λ p. absurd (no_ask _ _ _ _ (sym p.3)))
    (λ q. ⊎_elim (λ p. p) (λ p. absurd (p.1 64 3 refl)) q)
    ((refusals ask (with (ask ∷ []))).pending refl)

-- 5, no event: the table is as it was
next_quiet : (op : Op) (h : ℕ) → on_link next 0 ≡ on_link op h → sends op ≡ true → ⊥
next_quiet op h e f = let q : next ≡ op = cc in false≢true (rw (← q) at f)

pub next_left : LeftByPending (on_link next 0) (with []) 5 (left (on_link next 0) [])
unfolding Refusals locate well_formed slots_ok held_by lowest waits with_wait lowest_waiting
next_left =
    ⊎_elim (λ p. absurd (next_quiet p.0 p.1 p.3 p.4))
    (λ q. ⊎_elim (λ p. absurd (no_ask _ _ _ _ p.3)) (λ p. p) q)
    ((refusals (on_link next 0) (with [])).pending refl)
