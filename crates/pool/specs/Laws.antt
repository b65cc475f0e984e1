-- Going round sixteen places, and whether a pool fits, case by case: what the proofs cite. Assumes nothing.
use Rattle.std.specs.Prelude.{ℕ, ◌+◌, ◌-◌, ◌*◌, ◌%◌, ◌^◌, ◌<◌, ◌≤◌, ◌≡◌, refl, ◌≢◌, Bool, true, false, cond, ◌&&◌, ltb, leb, eqb}
use Rattle.std.proofs.Common.{lt_of_lt_of_le, pow_mono, arith, sym, ◌∙◌, lt-ltb, le-leb, leb-true, leb-false, ne_eqb, eq-eqb, eqb-true}
use Rattle.std.proofs.Math.Bool.{and-true, and-false, and_comm}
use Rattle.std.proofs.lemmas.Bool.{lt-leb, eqb-false}
use Rattle.turn.specs.Turn.{with_wait, next_waiting}
use Rattle.turn.specs.Bits.{with_below, waits_here, one_bit}
use Rattle.turn.proofs.Cycle.{next_sixteen}
use Rattle.turn.specs.Laws.{by}
use Rattle.pool.specs.declared.Pool.{Pool}
use Rattle.pool.specs.Pool.{joined, may_draw, is_whole}
use Rattle.pool.specs.Code.{fits_slots}

-- ---- an ask, case by case: w is the word with the slot's wait, r the next waiting slot

module _ (p : Pool) (i k : ℕ) (h : i < 16) {w r : ℕ} (joins : w ≡ cond (ltb i 16) (with_wait i 1 p.waiting) p.waiting)
    (next : r ≡ next_waiting w 16 p.turn) where
  turn : r ≡ next_waiting (with_wait i 1 p.waiting) 16 p.turn
  turn = rw (joins, lt-ltb i 16 h) at next

  pub draws_other : r ≢ i → false ≡ (ltb i 16 && may_draw 16 i k (joined i p))
  draws_other n = rw (lt-ltb i 16 h, ← turn, ne_eqb r i n)

  pub draws_next : r ≡ i → leb k p.free ≡ (ltb i 16 && may_draw 16 i k (joined i p))
  draws_next e = rw (lt-ltb i 16 h, ← turn, eq-eqb r i e)

-- in a table of n slots, going round sixteen places is going round n
pub draws_slots : (n i k : ℕ) (p : Pool) → n ≤ 16 → i < n → p.waiting < 2 ^ n → p.turn ≤ n
    → (ltb i 16 && may_draw 16 i k (joined i p)) ≡ may_draw n i k (joined i p)
draws_slots n i k p g h b t =
    let w = with_wait i 1 p.waiting in
    rw (
      lt-ltb i 16 (omega arith),
      next_sixteen w n p.turn i t g (with_below n i 1 p.waiting h (omega arith) b) h (waits_here i 1 p.waiting (omega arith)),
    )

-- ---- whether a pool fits a table of n slots, case by case

module _ (n : ℕ) (p : Pool) where
  pub fits_none : p.packets < 1 → false ≡ fits_slots n p
  fits_none a = rw (lt-leb 1 p.packets a)

  module _ (a : 1 ≤ p.packets) (b : p.packets < 2 ^ 8) where
    byte : p.packets ≤ 255
    byte = omega arith

    pub fits_over : p.packets < p.free → false ≡ fits_slots n p
    fits_over c = rw (le-leb 1 p.packets a, le-leb p.packets 255 byte, lt-leb p.free p.packets c)

    module _ (c : p.free ≤ p.packets) where
      rest : fits_slots n p ≡ (ltb p.waiting (2 ^ n) && leb p.turn n)
      rest = rw (le-leb 1 p.packets a, le-leb p.packets 255 byte, le-leb p.free p.packets c)

      pub fits_past : n < p.turn → false ≡ fits_slots n p
      fits_past e = sym (rest ∙ rw (lt-leb p.turn n e) (and-false (ltb p.waiting (2 ^ n))))

      pub fits_wide : p.turn ≤ n → 16 ≤ n → p.waiting < 2 ^ 16 → true ≡ fits_slots n p
      fits_wide e f g =
          sym (rest ∙ rw (lt-ltb p.waiting (2 ^ n) (lt_of_lt_of_le g (pow_mono f)), le-leb p.turn n e))

      pub fits_bits : p.turn ≤ n → n < 16 → ltb p.waiting ((1 * 2 ^ n) % 2 ^ 16) ≡ fits_slots n p
      fits_bits e f = sym (rest ∙ rw (le-leb p.turn n e, one_bit n f) (and-true (ltb p.waiting (2 ^ n))))

-- whole is: it fits, and the slots hold what is not free
pub whole_split : (n k : ℕ) (p : Pool) → is_whole n k p ≡ (fits_slots n p && eqb (p.packets - p.free) k)
whole_split n k p =
    rw (sums p.free k p.packets)
    (last (leb 1 p.packets) (leb p.packets 255) (leb p.free p.packets) (eqb (p.packets - p.free) k) _)
  where
    sums : (f h c : ℕ) → eqb (f + h) c ≡ (leb f c && eqb (c - f) h)
    sums f h c =
        by (leb f c)
        (λ a.
        let b = leb-true f c a in
        by (eqb (c - f) h)
        (λ e. let q : f + h ≡ c = omega (arith, eqb-true (c - f) h e) in rw (a, e) (eq-eqb (f + h) c q))
        (λ e. rw (a, e) (ne_eqb (f + h) c (λ q. eqb-false (c - f) h e (omega arith)))))
        (λ a. let b = leb-false f c a in rw a (ne_eqb (f + h) c (λ q. omega arith)))

    last : (a b c d e : Bool) → (a && (b && ((c && d) && e))) ≡ ((a && (b && (c && e))) && d)
    last true true true d e = and_comm d e
    last true true false d e = refl
    last true false c d e = refl
    last false b c d e = refl
