-- Laws of the bits and of the turn. Assumes nothing.
use Rattle.std.specs.Prelude.{ℕ, zero, suc, ◌+◌, ◌-◌, ◌*◌, ◌/◌, ◌%◌, ◌^◌, ◌<◌, ◌≤◌, ◌≡◌, refl, ◌≢◌, Bool, true, false, cond, eqb, leb}
use Rattle.std.proofs.Common.{sym, ap, ap₂, ◌∙◌, arith, add-mul, mul_assoc, zero-mul, mul-div_cancel, lt_of_lt_of_le, add-one, pow_pos, pow_mono, pow-add, shr-shr, shl_lt, eqb-true, leb-true, leb-false}
use Rattle.std.proofs.Math.Nat.{zero-mod, zero-div, div-eq_of_lt}
use Rattle.std.specs.Int.Count.{count_trailing_zeros}
use Rattle.std.specs.Int.Bits.{bit_and, shifted_half, shifted_even}
use Rattle.std.proofs.lemmas.Nat.Bits.{and_high}
use Rattle.std.proofs.Math.Pow.{shr_mod, high_ones, ones_split, ones_lt}
use Rattle.std.proofs.lemmas.Nat.{mod-pow-add}
use Rattle.std.proofs.Math.Arith.{digits_mod}
use Rattle.std.proofs.lemmas.Bool.{eqb-false}
use Rattle.turn.specs.Turn.{waits, lowest_waiting, next_waiting}

pub by : {Q : Type 0} (b : Bool) → (b ≡ true → Q) → (b ≡ false → Q) → Q
by true f g = f refl
by false f g = g refl

-- ---- the bits

half_shift : (w k : ℕ) → w / 2 ^ k / 2 ≡ w / 2 ^ (k + 1)
half_shift w k = shr-shr w k 1

pub waits_shift : (i w : ℕ) → waits i w ≡ eqb (w / 2 ^ i % 2) 1
unfolding waits
waits_shift zero w = let e : w ≡ w / 1 = omega arith in ap (λ (x : ℕ). eqb (x % 2) 1) e
waits_shift (suc i) w =
    let e : 1 + i ≡ suc i = omega arith in
    waits_shift i (w / 2) ∙ ap (λ (x : ℕ). eqb (x % 2) 1) (shr-shr w 1 i ∙ ap (λ (x : ℕ). w / 2 ^ x) e)

-- the lowest bit, and the others
half_mod : (a j : ℕ) → a % 2 ^ suc j ≡ (a / 2 % 2 ^ j) * 2 + a % 2
half_mod a j = ap (λ (x : ℕ). a % 2 ^ x) (sym (add-one j)) ∙ mod-pow-add a j 1

-- ---- the lowest waiting slot

pub lowest_split : (w a b i none : ℕ) → lowest_waiting w (a + b) i none ≡ lowest_waiting w a i (lowest_waiting w b (i + a) none)
unfolding lowest_waiting
lowest_split w zero b i none =
    let e : 0 + b ≡ b = omega arith in
    let f : i ≡ i + 0 = omega arith in
    ap₂ (λ (x y : ℕ). lowest_waiting w x y none) e f
lowest_split w (suc a) b i none =
    let e : suc a + b ≡ suc (a + b) = omega arith in
    let f : i + 1 + a ≡ i + suc a = omega arith in
    rw e
    (ap (λ (x : ℕ). cond (waits i w) i x)
    (lowest_split w a b (i + 1) none ∙ ap (λ (x : ℕ). lowest_waiting w a (i + 1) (lowest_waiting w b x none)) f))

-- no bit among them
pub lowest_zero : (w j k none : ℕ) → w / 2 ^ k % 2 ^ j ≡ 0 → lowest_waiting w j k none ≡ none
unfolding lowest_waiting
lowest_zero w zero k none e = refl
lowest_zero w (suc j) k none e =
    let h = half_mod (w / 2 ^ k) j in
    let odd : w / 2 ^ k % 2 ≡ 0 = omega (arith, h) in
    let rest : w / 2 ^ k / 2 % 2 ^ j ≡ 0 = omega (arith, h) in
    rw (waits_shift k w, odd) (lowest_zero w j (k + 1) none (rw (half_shift w k) at rest))

-- a bit among them: the zeros below it
pub lowest_trailing : (w j k none : ℕ) → w / 2 ^ k % 2 ^ j ≢ 0 → lowest_waiting w j k none ≡ k + count_trailing_zeros j (w / 2 ^ k)
unfolding lowest_waiting count_trailing_zeros
lowest_trailing w zero k none e = absurd (e (omega arith))
lowest_trailing w (suc j) k none e =
    by (eqb (w / 2 ^ k % 2) 1)
    (λ f.
    let o : w / 2 ^ k % 2 ≡ 1 = eqb-true _ 1 f in
    rw (waits_shift k w, o) (omega arith))
    (λ f.
    let z : w / 2 ^ k % 2 ≡ 0 = omega (arith, eqb-false (w / 2 ^ k % 2) 1 f) in
    let h = half_mod (w / 2 ^ k) j in
    let rest : w / 2 ^ (k + 1) % 2 ^ j ≢ 0 = (λ q. e (omega (arith, h, rw (← half_shift w k) at q))) in
    rw (waits_shift k w, z)
    (lowest_trailing w j (k + 1) none rest ∙ rw (half_shift w k) (omega arith)))

-- ---- the bit trick

-- what the mask of the bits from k upward leaves of a word of 16 bits
pub masked : (w k : ℕ) → k < 16 → w < 2 ^ 16 → bit_and w ((65535 * 2 ^ k) % 2 ^ 16) ≡ w / 2 ^ k * 2 ^ k
masked w k h b =
    ap (λ (x : ℕ). bit_and w x) mask
    ∙ and_high w (16 - k) k
    ∙ ap (λ (x : ℕ). x * 2 ^ k) (shr_mod (16 - k) k (rw whole b))
  where
    whole : 16 - k + k ≡ 16
    whole = omega arith

    around : k + (16 - k) ≡ 16
    around = omega arith

    fits : (2 ^ (16 - k) - 1) * 2 ^ k < 2 ^ 16
    fits = rw whole at (shl_lt {a = 2 ^ (16 - k) - 1} (16 - k) k (ones_lt (16 - k)))

    all : 65535 ≡ (2 ^ k - 1) * 2 ^ (16 - k) + (2 ^ (16 - k) - 1)
    all = ap (λ (x : ℕ). 2 ^ x - 1) (sym around) ∙ ones_split k (16 - k)

    parts : 65535 * 2 ^ k ≡ (2 ^ k - 1) * 2 ^ 16 + (2 ^ (16 - k) - 1) * 2 ^ k
    parts =
        ap (λ (x : ℕ). x * 2 ^ k) all
        ∙ add-mul ((2 ^ k - 1) * 2 ^ (16 - k)) (2 ^ (16 - k) - 1) (2 ^ k)
        ∙ ap (λ (x : ℕ). x + (2 ^ (16 - k) - 1) * 2 ^ k)
        (mul_assoc (2 ^ k - 1) (2 ^ (16 - k)) (2 ^ k)
        ∙ ap (λ (x : ℕ). (2 ^ k - 1) * x) (sym (pow-add 2 (16 - k) k) ∙ ap (λ (x : ℕ). 2 ^ x) whole))

    mask : (65535 * 2 ^ k) % 2 ^ 16 ≡ 2 ^ (16 - k + k) - 2 ^ k
    mask =
        ap (λ (x : ℕ). x % 2 ^ 16) parts ∙ digits_mod (2 ^ k - 1) {m = 2 ^ 16} {r = (2 ^ (16 - k) - 1) * 2 ^ k} fits
        ∙ sym (high_ones (16 - k) k)

-- the zeros below a word that was shifted up
trailing_shifted : (k j a : ℕ) → count_trailing_zeros (k + j) (a * 2 ^ k) ≡ k + count_trailing_zeros j a
unfolding count_trailing_zeros
trailing_shifted zero j a =
    let e : 0 + j ≡ j = omega arith in
    let f : a * 1 ≡ a = omega arith in
    let g : count_trailing_zeros j a ≡ 0 + count_trailing_zeros j a = omega arith in
    rw (e, f) g
trailing_shifted (suc k) j a =
    let e : suc k + j ≡ suc (k + j) = omega arith in
    let f : suc (k + count_trailing_zeros j a) ≡ suc k + count_trailing_zeros j a = omega arith in
    rw (e, shifted_even a k, shifted_half a k) (ap suc (trailing_shifted k j a) ∙ f)

-- all zeros
trailing_none : (n a : ℕ) → a % 2 ^ n ≡ 0 → count_trailing_zeros n a ≡ n
unfolding count_trailing_zeros
trailing_none zero a e = refl
trailing_none (suc n) a e =
    let h = half_mod a n in
    let odd : a % 2 ≡ 0 = omega (arith, h) in
    let rest : a / 2 % 2 ^ n ≡ 0 = omega (arith, h) in
    rw odd (ap suc (trailing_none n (a / 2) rest))

pub trailing_lowest : (n w : ℕ) → count_trailing_zeros n w ≡ lowest_waiting w n 0 n
trailing_lowest n w =
    let d : w / 2 ^ 0 ≡ w = omega arith in
    by (eqb (w % 2 ^ n) 0)
    (λ f.
    let z : w % 2 ^ n ≡ 0 = eqb-true _ 0 f in
    trailing_none n w z ∙ sym (lowest_zero w n 0 n (rw d z)))
    (λ f.
    let z : w / 2 ^ 0 % 2 ^ n ≢ 0 = rw d (eqb-false (w % 2 ^ n) 0 f) in
    let g : count_trailing_zeros n w ≡ 0 + count_trailing_zeros n w = omega arith in
    g ∙ sym (lowest_trailing w n 0 n z ∙ ap (λ (x : ℕ). 0 + count_trailing_zeros n x) d))

-- "trailing zeros of the masked word give the next turn"
pub turn_high : (w k : ℕ) → k < 16 → w < 2 ^ 16 → bit_and w ((65535 * 2 ^ k) % 2 ^ 16) ≢ 0
    → count_trailing_zeros 16 (bit_and w ((65535 * 2 ^ k) % 2 ^ 16)) ≡ next_waiting w 16 k
turn_high w k h b n =
    ap (count_trailing_zeros 16) (masked w k h b)
    ∙ ap (λ (x : ℕ). count_trailing_zeros x (w / 2 ^ k * 2 ^ k)) around
    ∙ trailing_shifted k (16 - k) (w / 2 ^ k)
    ∙ sym (lowest_trailing w (16 - k) k _ some)
  where
    around : 16 ≡ k + (16 - k)
    around = omega arith

    whole : 16 - k + k ≡ 16
    whole = omega arith

    some : w / 2 ^ k % 2 ^ (16 - k) ≢ 0
    some q =
        n (masked w k h b ∙ ap (λ (x : ℕ). x * 2 ^ k) (sym (shr_mod (16 - k) k (rw whole b)) ∙ q) ∙ zero-mul (2 ^ k))

-- no bit from k upward: the lowest of all
pub turn_low : (w k : ℕ) → w < 2 ^ 16 → w / 2 ^ k ≡ 0 → count_trailing_zeros 16 w ≡ next_waiting w 16 k
turn_low w k b e =
    trailing_lowest 16 w ∙ below (leb k 16) refl
    ∙ sym (lowest_zero w (16 - k) k _ (rw e (zero-mod (2 ^ (16 - k)))))
  where
    below : (c : Bool) → leb k 16 ≡ c → lowest_waiting w 16 0 16 ≡ lowest_waiting w k 0 16
    below true f =
        let g : k ≤ 16 = leb-true k 16 f in
        let s : 16 ≡ k + (16 - k) = omega arith in
        let o : 0 + k ≡ k = omega arith in
        ap (λ (x : ℕ). lowest_waiting w x 0 16) s
        ∙ lowest_split w k (16 - k) 0 16
        ∙ ap (lowest_waiting w k 0) (rw o (lowest_zero w (16 - k) k 16 (rw e (zero-mod (2 ^ (16 - k))))))
    below false f =
        let g : 16 < k = leb-false k 16 f in
        let s : 16 + (k - 16) ≡ k = omega arith in
        let z : w / 2 ^ 16 ≡ 0 = div-eq_of_lt b in
        sym (ap (λ (x : ℕ). lowest_waiting w x 0 16) (sym s)
        ∙ lowest_split w 16 (k - 16) 0 16
        ∙ ap (lowest_waiting w 16 0) (lowest_zero w (k - 16) 16 16 (rw z (zero-mod (2 ^ (k - 16))))))

-- the masked word is 0: no bit from k upward
pub none_high : (w k : ℕ) → k < 16 → w < 2 ^ 16 → bit_and w ((65535 * 2 ^ k) % 2 ^ 16) ≡ 0 → w / 2 ^ k ≡ 0
none_high w k h b e =
    sym (mul-div_cancel (w / 2 ^ k) (pow_pos k)) ∙ ap (λ (x : ℕ). x / 2 ^ k) (sym (masked w k h b) ∙ e) ∙ zero-div (2 ^ k)

pub none_past : (w k : ℕ) → 16 ≤ k → w < 2 ^ 16 → w / 2 ^ k ≡ 0
none_past w k h b = div-eq_of_lt (lt_of_lt_of_le b (pow_mono h))
