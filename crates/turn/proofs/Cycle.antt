-- The turn is the next waiting slot in cyclic order. Assumes nothing.
use Rattle.std.specs.Prelude.{ℕ, zero, suc, ◌+◌, ◌-◌, ◌%◌, ◌^◌, ◌<◌, ◌≤◌, ◌≡◌, refl, ◌≢◌, ◌⊎◌, Bool, true, false, cond, eqb, leb}
use Rattle.std.proofs.Common.{sym, ap, ◌∙◌, inl, inr, ⊎_elim, arith, mod-eq_of_lt, leb-true, leb-false, eqb-true}
use Rattle.std.proofs.lemmas.Bool.{false≢true, eqb-false}
use Rattle.std.proofs.Math.Nat.{add-mod_right}
use Rattle.turn.specs.Turn.{waits, lowest_waiting, next_waiting}
use Rattle.turn.specs.Laws.{by}
use Rattle.turn.specs.Bits.{waits_past}

-- ---- the order in which slots come round

-- on the way round from slot t, a comes before b: up to the last slot, or from 0 on, or one after the other
abbrev pub Before : ℕ → ℕ → ℕ → Type 0
Before t a b = ((t ≤ a) × (a < b)) ⊎ (((a < b) × (b < t)) ⊎ ((b < t) × (t ≤ a)))

pub before_not_both : (t a b : ℕ) → Before t a b → Before t b a → ⊥
before_not_both t a b (inl x) (inl y) = omega arith
before_not_both t a b (inl x) (inr (inl y)) = omega arith
before_not_both t a b (inl x) (inr (inr y)) = omega arith
before_not_both t a b (inr (inl x)) (inl y) = omega arith
before_not_both t a b (inr (inl x)) (inr (inl y)) = omega arith
before_not_both t a b (inr (inl x)) (inr (inr y)) = omega arith
before_not_both t a b (inr (inr x)) (inl y) = omega arith
before_not_both t a b (inr (inr x)) (inr (inl y)) = omega arith
before_not_both t a b (inr (inr x)) (inr (inr y)) = omega arith

-- once s had its turn, what came before b after it still does
pub before_next : (t s a b : ℕ) → Before t s a → Before t a b → Before (s + 1) a b
before_next t s a b (inl x) (inl y) = inl (omega arith, y.1)
before_next t s a b (inl x) (inr (inl y)) = absurd (omega arith)
before_next t s a b (inl x) (inr (inr y)) = inr (inr (omega arith, omega arith))
before_next t s a b (inr (inl x)) (inl y) = absurd (omega arith)
before_next t s a b (inr (inl x)) (inr (inl y)) = inl (omega arith, y.0)
before_next t s a b (inr (inl x)) (inr (inr y)) = absurd (omega arith)
before_next t s a b (inr (inr x)) (inl y) = absurd (omega arith)
before_next t s a b (inr (inr x)) (inr (inl y)) = inr (inl (y.0, omega arith))
before_next t s a b (inr (inr x)) (inr (inr y)) = absurd (omega arith)

-- who had its turn comes last
pub before_last : (s a : ℕ) → a ≢ s → Before (s + 1) a s
before_last s a n =
    by (leb a s)
    (λ f. let h = leb-true a s f in inr (inl (omega arith, omega arith)))
    (λ f. let h = leb-false a s f in inr (inr (omega arith, omega arith)))

-- ---- the search

-- the lowest waiting slot of n from i: found, and none below it waits; or none waits
abbrev Found : ℕ → ℕ → ℕ → ℕ → Type 0
Found w n i r = (i ≤ r) × (r < i + n) × (waits r w ≡ true) × ((k : ℕ) → i ≤ k → k < r → waits k w ≡ false)

abbrev Nowhere : ℕ → ℕ → ℕ → ℕ → ℕ → Type 0
Nowhere w n i none r = (r ≡ none) × ((k : ℕ) → i ≤ k → k < i + n → waits k w ≡ false)

lowest_found : (w n i none : ℕ) → Found w n i (lowest_waiting w n i none) ⊎ Nowhere w n i none (lowest_waiting w n i none)
unfolding lowest_waiting
lowest_found w zero i none = inr (refl, λ k a b. absurd (omega arith))
lowest_found w (suc n) i none = go (waits i w) refl (lowest_found w n (i + 1) none)
  where
    go : (b : Bool) → waits i w ≡ b
        → Found w n (i + 1) (lowest_waiting w n (i + 1) none) ⊎ Nowhere w n (i + 1) none (lowest_waiting w n (i + 1) none)
        → Found w (suc n) i (cond b i (lowest_waiting w n (i + 1) none)) ⊎ Nowhere w (suc n) i none (cond b i (lowest_waiting w n (i + 1) none))
    go true e ih = inl (omega arith, omega arith, e, λ k a b. absurd (omega arith))
    go false e (inl f) =
        inl (omega (arith, f.0), omega (arith, f.1), f.2, λ k a b. by (eqb k i) (λ q. rw (eqb-true k i q) e) (λ q. f.3 k (omega (arith, eqb-false k i q)) b))
    go false e (inr f) =
        inr (f.0, λ k a b. by (eqb k i) (λ q. rw (eqb-true k i q) e) (λ q. f.1 k (omega (arith, eqb-false k i q)) (omega arith)))

-- where slot i waits: some slot is found that waits, and it is i or comes before i
pub record Next (w n t i r : ℕ) : Type 0 where
  pub below : r < n
  pub waiting : waits r w ≡ true
  pub first : (r ≡ i) ⊎ Before t r i

pub next_first : (w n t i : ℕ) → t ≤ n → i < n → waits i w ≡ true → Next w n t i (next_waiting w n t)
next_first w n t i h b e =
    ⊎_elim up (λ q. round q (lowest_found w t 0 n)) (lowest_found w (n - t) t (lowest_waiting w t 0 n))
  where
    no : {k : ℕ} → waits k w ≡ false → k ≡ i → ⊥
    no q p = false≢true (sym q ∙ rw p e)

    up : Found w (n - t) t (next_waiting w n t) → Next w n t i (next_waiting w n t)
    up f =
        record {
          below = omega (arith, f.1);
          waiting = f.2;
          first =
              by (leb t i)
              (λ a.
              by (leb (next_waiting w n t) i)
              (λ c.
              by (eqb (next_waiting w n t) i)
              (λ d. inl (eqb-true _ i d))
              (λ d. inr (inl (f.0, omega (arith, leb-true (next_waiting w n t) i c, eqb-false (next_waiting w n t) i d)))))
              (λ c. absurd (no (f.3 i (leb-true t i a) (leb-false (next_waiting w n t) i c)) refl)))
              (λ a. inr (inr (inr (leb-false t i a, f.0))));
        }

    round : Nowhere w (n - t) t (lowest_waiting w t 0 n) (next_waiting w n t)
        → Found w t 0 (lowest_waiting w t 0 n) ⊎ Nowhere w t 0 n (lowest_waiting w t 0 n) → Next w n t i (next_waiting w n t)
    round q (inl f) =
        let r = lowest_waiting w t 0 n in
        let low : i < t = by (leb t i) (λ a. absurd (no (q.1 i (leb-true t i a) (omega arith)) refl)) (λ a. leb-false t i a) in
        rw q.0
        (record {
          below = omega (arith, f.1);
          waiting = f.2;
          first =
              by (leb r i)
              (λ c.
              by (eqb r i)
              (λ d. inl (eqb-true _ i d))
              (λ d. inr (inr (inl (omega (arith, leb-true r i c, eqb-false r i d), low)))))
              (λ c. absurd (no (f.3 i (omega arith) (leb-false r i c)) refl));
        })
    round q (inr f) =
        by (leb t i)
        (λ a. absurd (no (q.1 i (leb-true t i a) (omega arith)) refl))
        (λ a. absurd (no (f.1 i (omega arith) (omega (arith, leb-false t i a))) refl))

-- ---- "in cyclic order": by the steps that it is from slot t, going round n slots

abbrev pub steps : ℕ → ℕ → ℕ → ℕ
steps n t j = (j + n - t) % n

steps_up : (n t j : ℕ) → t ≤ j → j < n → steps n t j ≡ j - t
steps_up n t j h b =
    let e : j + n - t ≡ j - t + n = omega arith in
    ap (λ (x : ℕ). x % n) e ∙ add-mod_right (j - t) n ∙ mod-eq_of_lt (omega arith)

steps_round : (n t j : ℕ) → t ≤ n → j < t → steps n t j ≡ j + n - t
steps_round n t j h b = mod-eq_of_lt (omega arith)

before_steps : (n t a b : ℕ) → t ≤ n → a < n → b < n → Before t a b → steps n t a < steps n t b
before_steps n t a b h x y (inl q) = rw (steps_up n t a q.0 x, steps_up n t b (omega arith) y) (omega arith)
before_steps n t a b h x y (inr (inl q)) =
    rw (steps_round n t a h (omega arith), steps_round n t b h q.1) (omega arith)
before_steps n t a b h x y (inr (inr q)) = rw (steps_up n t a q.1 x, steps_round n t b h q.0) (omega arith)

-- the slot found waits, and no other waiting slot is as few steps away
pub next_nearest : (w n t i : ℕ) → t ≤ n → i < n → waits i w ≡ true
    → (next_waiting w n t < n) × (waits (next_waiting w n t) w ≡ true)
    × (i ≢ next_waiting w n t → steps n t (next_waiting w n t) < steps n t i)
next_nearest w n t i h b e =
    let k = next_first w n t i h b e in (
      k.below,
      k.waiting,
      λ d. ⊎_elim (λ q. absurd (d (sym q))) (λ q. before_steps n t (next_waiting w n t) i h k.below b q) k.first,
    )

-- ---- no wait is past the slots, so going round sixteen places is going round n slots

pub next_sixteen : (w n t i : ℕ) → t ≤ n → n ≤ 16 → w < 2 ^ n → i < n → waits i w ≡ true → next_waiting w 16 t ≡ next_waiting w n t
next_sixteen w n t i h g b d e =
    let a = next_first w 16 t i (omega arith) (omega arith) e in
    let below : next_waiting w 16 t < n =
    by (leb n (next_waiting w 16 t))
    (λ f. absurd (false≢true (sym (waits_past n _ w (leb-true n _ f) b) ∙ a.waiting)))
    (λ f. leb-false n _ f)
    in
    let c = next_first w n t (next_waiting w 16 t) h below a.waiting in
    let o = next_first w 16 t (next_waiting w n t) (omega arith) (omega (arith, c.below)) c.waiting in
    ⊎_elim (λ q. sym q) (λ q. ⊎_elim (λ r. r) (λ r. absurd (before_not_both t _ _ q r)) o.first) c.first
