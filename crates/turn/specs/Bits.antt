-- Laws of a wait that is set or cleared. Assumes nothing.
use Rattle.std.specs.Prelude.{ℕ, zero, suc, ◌+◌, ◌-◌, ◌*◌, ◌/◌, ◌%◌, ◌^◌, ◌<◌, ◌≤◌, max, min, ◌≡◌, refl, ◌≢◌, false, eqb}
use Rattle.std.proofs.Common.{ap, ◌∙◌, arith, pow-suc, mod-eq_of_lt, pow_pos}
use Rattle.std.specs.Int.Bits.{bit_and, bit_or, or_step, or_zero_r, and_step}
use Rattle.std.proofs.lemmas.Nat.{and_mask}
use Rattle.std.proofs.Math.Pow.{pow-lt}
use Rattle.turn.specs.Turn.{waits, with_wait}

-- ---- what the code does to the word

pub or_bit : (i w : ℕ) → bit_or w (2 ^ i) ≡ with_wait i 1 w
unfolding with_wait
or_bit zero w =
    let e : max (w % 2) 1 ≡ 1 = omega arith in
    or_step w 1 ∙ rw (or_zero_r (w / 2), e)
or_bit (suc i) w =
    let h : 2 ^ suc i / 2 ≡ 2 ^ i = rw (pow-suc 2 i) (omega arith) in
    let z : 2 ^ suc i % 2 ≡ 0 = rw (pow-suc 2 i) (omega arith) in
    let m : max (w % 2) 0 ≡ w % 2 = omega arith in
    or_step w (2 ^ suc i) ∙ rw (h, z, m, or_bit i (w / 2))

pub and_not_bit : (n i w : ℕ) → i < n → w < 2 ^ n → bit_and w (2 ^ n - 1 - 2 ^ i) ≡ with_wait i 0 w
unfolding with_wait
and_not_bit zero i w h b = absurd (omega arith)
and_not_bit (suc n) zero w h b =
    let p = pow_pos n in
    let e : 2 ^ suc n ≡ 2 ^ n * 2 = pow-suc 2 n in
    let d : (2 ^ suc n - 1 - 1) / 2 ≡ 2 ^ n - 1 = omega arith in
    let z : (2 ^ suc n - 1 - 1) % 2 ≡ 0 = omega arith in
    let m : min (w % 2) 0 ≡ 0 = omega arith in
    let l : w / 2 < 2 ^ n = omega arith in
    and_step w (2 ^ suc n - 1 - 1) ∙ rw (d, z, m, and_mask (w / 2) n, mod-eq_of_lt l)
and_not_bit (suc n) (suc i) w h b =
    let k : i < n = omega arith in
    let p = pow-lt k in
    let e : 2 ^ suc n ≡ 2 ^ n * 2 = pow-suc 2 n in
    let f : 2 ^ suc i ≡ 2 ^ i * 2 = pow-suc 2 i in
    let d : (2 ^ suc n - 1 - 2 ^ suc i) / 2 ≡ 2 ^ n - 1 - 2 ^ i = omega arith in
    let z : (2 ^ suc n - 1 - 2 ^ suc i) % 2 ≡ 1 = omega arith in
    let m : min (w % 2) 1 ≡ w % 2 = omega arith in
    let l : w / 2 < 2 ^ n = omega arith in
    and_step w (2 ^ suc n - 1 - 2 ^ suc i) ∙ rw (d, z, m, and_not_bit n i (w / 2) k l)

-- a shifted 1 below 16
pub one_bit : (i : ℕ) → i < 16 → (1 * 2 ^ i) % 2 ^ 16 ≡ 2 ^ i
one_bit i h =
    let p = pow-lt h in
    let e : 1 * 2 ^ i ≡ 2 ^ i = omega arith in
    rw e (mod-eq_of_lt p)

-- ---- who waits afterwards

with_half : (i b w : ℕ) → b < 2 → with_wait (suc i) b w / 2 ≡ with_wait i b (w / 2)
unfolding with_wait
with_half i b w h = omega arith

pub waits_here : (i b w : ℕ) → b < 2 → waits i (with_wait i b w) ≡ eqb b 1
unfolding waits with_wait
waits_here zero b w h = let e : (w / 2 * 2 + b) % 2 ≡ b = omega arith in rw e
waits_here (suc i) b w h = rw (with_half i b w h) (waits_here i b (w / 2) h)

pub waits_other : (i j b w : ℕ) → b < 2 → i ≢ j → waits i (with_wait j b w) ≡ waits i w
unfolding waits with_wait
waits_other zero zero b w h n = absurd (n refl)
waits_other zero (suc j) b w h n =
    let e : (with_wait j b (w / 2) * 2 + w % 2) % 2 ≡ w % 2 = omega arith in rw e
waits_other (suc i) zero b w h n = let e : (w / 2 * 2 + b) / 2 ≡ w / 2 = omega arith in rw e
waits_other (suc i) (suc j) b w h n =
    rw (with_half j b w h) (waits_other i j b (w / 2) h (λ q. n (ap suc q)))

-- waits of different slots are set and cleared in any order
pub with_comm : (i j b c w : ℕ) → b < 2 → c < 2 → i ≢ j → with_wait i b (with_wait j c w) ≡ with_wait j c (with_wait i b w)
unfolding with_wait
with_comm zero zero b c w h k n = absurd (n refl)
with_comm zero (suc j) b c w h k n =
    let e : (with_wait j c (w / 2) * 2 + w % 2) / 2 ≡ with_wait j c (w / 2) = omega arith in
    let f : (w / 2 * 2 + b) / 2 ≡ w / 2 = omega arith in
    let g : (w / 2 * 2 + b) % 2 ≡ b = omega arith in
    rw (e, f, g)
with_comm (suc i) zero b c w h k n =
    let e : (with_wait i b (w / 2) * 2 + w % 2) / 2 ≡ with_wait i b (w / 2) = omega arith in
    let f : (w / 2 * 2 + c) / 2 ≡ w / 2 = omega arith in
    let g : (w / 2 * 2 + c) % 2 ≡ c = omega arith in
    rw (e, f, g)
with_comm (suc i) (suc j) b c w h k n =
    let e : (with_wait j c (w / 2) * 2 + w % 2) / 2 ≡ with_wait j c (w / 2) = omega arith in
    let f : (with_wait i b (w / 2) * 2 + w % 2) / 2 ≡ with_wait i b (w / 2) = omega arith in
    let g : (with_wait j c (w / 2) * 2 + w % 2) % 2 ≡ w % 2 = omega arith in
    let o : (with_wait i b (w / 2) * 2 + w % 2) % 2 ≡ w % 2 = omega arith in
    rw (e, f, g, o, with_comm i j b c (w / 2) h k (λ q. n (ap suc q)))

-- a wait at a slot stays below the slots
pub with_below : (n i b w : ℕ) → i < n → b < 2 → w < 2 ^ n → with_wait i b w < 2 ^ n
unfolding with_wait
with_below zero i b w h k l = absurd (omega arith)
with_below (suc n) zero b w h k l =
    let e : 2 ^ suc n ≡ 2 ^ n * 2 = pow-suc 2 n in
    omega arith
with_below (suc n) (suc i) b w h k l =
    let e : 2 ^ suc n ≡ 2 ^ n * 2 = pow-suc 2 n in
    let g : w / 2 < 2 ^ n = omega arith in
    let f = with_below n i b (w / 2) (omega arith) k g in
    omega arith

-- no wait past the slots
pub waits_past : (n i w : ℕ) → n ≤ i → w < 2 ^ n → waits i w ≡ false
unfolding waits
waits_past zero zero w h l = let e : w ≡ 0 = omega arith in rw e
waits_past zero (suc i) w h l = waits_past zero i (w / 2) (omega arith) (omega arith)
waits_past (suc n) zero w h l = absurd (omega arith)
waits_past (suc n) (suc i) w h l =
    let e : 2 ^ suc n ≡ 2 ^ n * 2 = pow-suc 2 n in
    waits_past n i (w / 2) (omega arith) (omega arith)
