-- While a slot waits, no other slot is granted more than once: the proof of `PoolTurns`. Assumes nothing.
use Rattle.std.specs.Prelude.{ℕ, ◌+◌, ◌≤◌, ◌<◌, ◌≡◌, refl, ◌≢◌, ◌⊎◌, Bool, true, false, cond, ◌&&◌, List, [], ◌∷◌, eqb, leb, ltb}
use Rattle.std.proofs.Common.{sym, ◌∙◌, inl, inr, ⊎_elim, arith, eqb-true, ne_eqb, leb-true, leb-false}
use Rattle.std.proofs.lemmas.Bool.{false≢true}
use Rattle.slot.specs.declared.ConnectionManager.{ConnectionManager}
use Rattle.slot.specs.declared.Located.{Located}
use Rattle.slot.specs.declared.Located.TheVariants.{Setup, Absent, At}
use Rattle.turn.specs.Turn.{waits, with_wait, next_waiting}
use Rattle.turn.specs.Bits.{waits_here, waits_other, waits_past}
use Rattle.turn.proofs.Cycle.{Before, before_not_both, before_next, before_last, next_first}
use Rattle.pool.specs.Pool.{joined, may_draw}
use Rattle.shuffle.specs.Shuffle.{by_key}
use Rattle.model.specs.Answer.{Refusal, refusal}
use Rattle.model.specs.Find.{slot_at, locate, by_live, by_index, fits}
use Rattle.model.specs.Link.{way_of, closing}
use Rattle.model.specs.Calls.{Call, on_link, connects, poll_accept_call, get_connection_by_peer_address_call, poll_disconnecting_call, set_link_credits_call, total_lost_call, poll_request_from_pool_call, pool_confirm_sent_call, pool_grant_end_call, grant_confirm, run, settle, asked_at}
use Rattle.model.proofs.Laws.{split, either, at_most, and_left}
use Rattle.model_theorems.specs.Lost.{is_at}
use Rattle.model_theorems.specs.Sound.{Sound}
use Rattle.model_theorems.proofs.Reach.{run_sound}
use Rattle.pool_theorems.specs.Statement.{Move, draws, completes, returns, brings_back, nothing, accepted, in_its_life, by_ask, at, moves_at, turn_after, above, WaitsOn, grants, PoolTurns}
use Rattle.pool_theorems.proofs.Waits.{run_waits}

-- ---- what a call that moves m at each slot does to the turn: nothing, and nobody is granted any; or one slot is granted some,
-- which was the next

module _ (t : ConnectionManager) (m : ℕ → Move) (u : ConnectionManager) where
  abbrev Still : Type 0
  Still = (u.pool.turn ≡ t.pool.turn) × ((j : ℕ) → above (m j) ≡ 0)

  pub record Given : Type 0 where
    pub slot : ℕ
    pub turn : u.pool.turn ≡ slot + 1
    pub next : next_waiting (with_wait slot 1 t.pool.waiting) t.count t.pool.turn ≡ slot
    pub ended : waits slot u.pool.waiting ≡ false
    pub other : (j : ℕ) → j ≢ slot → above (m j) ≡ 0

  abbrev Turned : Type 0
  Turned = Still ⊎ Given

above_once : (m : Move) → above m ≤ 1
above_once (draws k) = at_most 1 (ltb 0 k)
above_once (completes k) = omega arith
above_once (returns k) = omega arith
above_once brings_back = omega arith
above_once nothing = omega arith

abbrev NotAbove : Move → Type 0
NotAbove m = above m ≡ 0

above_at : (j : ℕ) (f : Located) (m : Move) → NotAbove m → NotAbove (at j f m)
above_at j f m e = either NotAbove (is_at j f) m nothing e refl

above_where : (j : ℕ) (f : Located) (b : Bool) (m : Move) → NotAbove m → NotAbove (at j f (cond b m nothing))
above_where j f b m e = above_at j f (cond b m nothing) (either NotAbove b m nothing e refl)

above_other : (j i : ℕ) (m : Move) → j ≢ i → NotAbove (at j (At i) m)
above_other j i m n = rw (ne_eqb j i n)

-- ---- an ask

asked_turned : (k : ℕ) (t : ConnectionManager) (f : Located)
    → let o = settle (refusal Refusal.Disconnected) (λ i. asked_at t.count k i (slot_at t i) t.pool) t f in
    Turned t (λ j. at j f (by_ask k o.reply)) o.table
asked_turned k t Setup = inl (refl, λ j. refl)
asked_turned k t Absent = inl (refl, λ j. refl)
asked_turned k t (At i) =
    split (ltb t.pool.packets k)
    (λ a. rw a (inl (refl, λ j. above_at j (At i) nothing refl)))
    (λ a.
    rw a
    (split (eqb k 0)
    (λ b. rw b (inl (refl, λ j. above_at j (At i) (draws k) (rw (eqb-true k 0 b)))))
    (λ b.
    rw b
    (split (may_draw t.count i k (joined i t.pool))
    (λ d.
    rw d
    (inr
    (record {
      slot = i;
      turn = refl;
      next = eqb-true _ i (and_left (eqb (next_waiting (with_wait i 1 t.pool.waiting) t.count t.pool.turn) i) _ d);
      ended = waits_here i 0 (with_wait i 1 t.pool.waiting) (omega arith);
      other = λ j n. above_other j i (draws k) n;
    })))
    (λ d. rw d (inl (refl, λ j. above_at j (At i) nothing refl)))))))

-- ---- every call

-- no ask: the turn is as before
module _ (c : Call) (t : ConnectionManager) where
  unasked : turn_after c t ≡ t.pool.turn → ((j : ℕ) → NotAbove (moves_at j c t)) → Turned t (λ j. moves_at j c t) (run c t).table
  unasked e h = inl ((run_waits c t).1 ∙ e, h)

turned : (c : Call) (t : ConnectionManager) → Turned t (λ j. moves_at j c t) (run c t).table
turned (on_link op n) t =
    unasked (on_link op n) t refl
    (λ j. above_where j (locate (fits (way_of op) n) t) (closing op && accepted (run (on_link op n) t).reply) brings_back refl)
turned (connects h a r p) t = unasked (connects h a r p) t refl (λ j. refl)
turned (poll_accept_call r ps) t = unasked (poll_accept_call r ps) t refl (λ j. refl)
turned (get_connection_by_peer_address_call a) t = unasked (get_connection_by_peer_address_call a) t refl (λ j. refl)
turned poll_disconnecting_call t = unasked poll_disconnecting_call t refl (λ j. refl)
turned (set_link_credits_call c) t = unasked (set_link_credits_call c) t refl (λ j. refl)
turned total_lost_call t = unasked total_lost_call t refl (λ j. refl)
turned (poll_request_from_pool_call h k) t = asked_turned k t (locate (fits by_live h) t)
turned (pool_confirm_sent_call h k) t =
    unasked (pool_confirm_sent_call h k) t refl
    (λ j. above_where j (locate (fits by_live h) t) (accepted (run (pool_confirm_sent_call h k) t).reply) (completes k) refl)
turned (pool_grant_end_call g) t =
    unasked (pool_grant_end_call g) t refl
    (λ j. above_where j (locate (fits by_index g.index) t) (in_its_life (run (pool_grant_end_call g) t).reply) (returns g.packets) refl)
turned (grant_confirm g n) t = unasked (grant_confirm g n) t refl (λ j. refl)

-- ---- histories

waiter : (t : ConnectionManager) → Sound t → (i : ℕ) → waits i t.pool.waiting ≡ true → i < t.count
waiter t w i e =
    split (leb t.count i)
    (λ f. absurd (false≢true (sym (waits_past t.count i t.pool.waiting (leb-true t.count i f) w.formed.waits) ∙ e)))
    (λ f. leb-false t.count i f)

-- a grant to another slot while slot i waits is to one that comes before i
before : (c : Call) (t : ConnectionManager) → Sound t → (i : ℕ) → waits i t.pool.waiting ≡ true
    → (g : Given t (λ j. moves_at j c t) (run c t).table) → i ≢ g.slot → Before t.pool.turn g.slot i
before c t w i e g n =
    let k = next_first (with_wait g.slot 1 t.pool.waiting) t.count t.pool.turn i w.formed.turn (waiter t w i e) on in
    ⊎_elim (λ q. absurd (n (sym q ∙ g.next))) (λ q. rw g.next at q) k.first
  where
    on : waits i (with_wait g.slot 1 t.pool.waiting) ≡ true
    on = waits_other i g.slot 1 t.pool.waiting (omega arith) n ∙ e

module _ (i j : ℕ) (n : j ≢ i) where
  -- slot i waits no longer: that was the last call
  wait_ended : (cs : List Call) (t : ConnectionManager) → WaitsOn i cs t → waits i t.pool.waiting ≡ false → grants j cs t ≡ 0
  wait_ended [] t e f = refl
  wait_ended (c ∷ cs) t e f = absurd (false≢true (sym f ∙ e.0))

  -- once slot i comes before j, j is granted none
  none_more : (cs : List Call) (t : ConnectionManager) → Sound t → WaitsOn i cs t → Before t.pool.turn i j → grants j cs t ≡ 0
  none_more [] t w e b = refl
  none_more (c ∷ cs) t w e b = go (none_more cs (run c t).table (run_sound c t w) e.1) (turned c t)
    where
      go : (Before (run c t).table.pool.turn i j → grants j cs (run c t).table ≡ 0)
          → Turned t (λ k. moves_at k c t) (run c t).table → grants j (c ∷ cs) t ≡ 0
      go rest (inl q) = rw (q.1 j, rest (rw q.0 b))
      go rest (inr g) =
          by_key (λ (x : ℕ). x) i g.slot
          (λ q. rw (g.other j (rw (← q) n), wait_ended cs _ e.1 (rw q g.ended)))
          (λ q.
          let p = before c t w i e.0 g q in
          rw (
            g.other j (λ r. before_not_both t.pool.turn j i (rw r p) b),
            rest (rw g.turn (before_next t.pool.turn g.slot i j p b)),
          ))

  at_most_once : (cs : List Call) (t : ConnectionManager) → Sound t → WaitsOn i cs t → grants j cs t ≤ 1
  at_most_once [] t w e = omega arith
  at_most_once (c ∷ cs) t w e = go (at_most_once cs (run c t).table (run_sound c t w) e.1) (turned c t)
    where
      go : grants j cs (run c t).table ≤ 1 → Turned t (λ k. moves_at k c t) (run c t).table → grants j (c ∷ cs) t ≤ 1
      go rest (inl q) = omega (arith, q.1 j)
      go rest (inr g) =
          by_key (λ (x : ℕ). x) j g.slot
          (λ q.
          let none = none_more cs _ (run_sound c t w) e.1 (rw (g.turn, ← q) (before_last j i (λ r. n (sym r)))) in
          omega (arith, none, above_once (moves_at j c t)))
          (λ q. omega (arith, g.other j q))

pub pool_turns : PoolTurns
unfolding PoolTurns
pool_turns t w i j n cs e = at_most_once i j n cs t w e
