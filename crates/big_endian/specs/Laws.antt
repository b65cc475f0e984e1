-- Reading and writing a number are each other's inverse, whatever the width. Assumes nothing.
use Rattle.std.specs.Prelude.{ℕ, zero, suc, ◌+◌, ◌-◌, ◌*◌, ◌/◌, ◌%◌, ◌^◌, ◌<◌, ◌≤◌, ◌≡◌, refl, List, [], ◌∷◌, ◌++◌, length, get_or, take, drop}
use Rattle.std.proofs.Common.{sym, ap, ap₂, ◌∙◌, append_assoc, pow-suc, zero-add, add-zero, add_assoc, add-one, arith, length-append, length-drop, take-append-drop, get_or-drop, take-suc, take_all, drop_at, drop-drop}
use Rattle.std.proofs.Math.Nat.{one-le-pow, pow-le-pow_right}
use Rattle.std.proofs.Math.ListN.{get_or-eq_default}
use Rattle.std.proofs.lemmas.List.{get_or_at}
use Rattle.big_endian.specs.BigEndian.{be, be_at}

-- a list of bytes
abbrev pub Bytes : List ℕ → Type 0
Bytes s = (i : ℕ) → get_or s i 0 < 256

pub length_be : (n x : ℕ) → length (be n x) ≡ n
unfolding be
length_be zero x = refl
length_be (suc n) x = length-append (be n (x / 256)) (x % 256 ∷ []) ∙ omega (arith, length_be n (x / 256))

-- n bytes make a number below 256 ^ n
pub below : (n : ℕ) (s : List ℕ) (at : ℕ) → Bytes s → be_at n s at < 256 ^ n
unfolding be_at
below zero s at b = omega arith
below (suc n) s at b = omega (arith, below n s at b, b (at + n), pow-suc 256 n)

-- where the bytes of x stand, x is read
pub read_back : (n x : ℕ) (s q : List ℕ) (at : ℕ) → x < 256 ^ n → drop at s ≡ be n x ++ q → be_at n s at ≡ x
unfolding be be_at
read_back zero x s q at h e = omega arith
read_back (suc n) x s q at h e =
    let f : drop at s ≡ be n (x / 256) ++ x % 256 ∷ q = e ∙ append_assoc (be n (x / 256)) (x % 256 ∷ []) q in
    let k : get_or s (at + n) 0 ≡ x % 256 = sym (get_or-drop at s n 0) ∙ ap (λ (l : List ℕ). get_or l n 0) f ∙ get_or_at (be n (x / 256)) (x % 256) q 0 n (length_be n (x / 256)) in
    let i : be_at n s at ≡ x / 256 = read_back n (x / 256) s (x % 256 ∷ q) at (omega (arith, pow-suc 256 n)) f in
    omega arith

-- what was read is written as the bytes that stood there
pub written_back : (n : ℕ) (s : List ℕ) (at : ℕ) → Bytes s → at + n ≤ length s → be n (be_at n s at) ≡ take n (drop at s)
unfolding be be_at
written_back zero s at b h = refl
written_back (suc n) s at b h =
    let x = be_at n s at in
    let y = get_or s (at + n) 0 in
    let p : (x * 256 + y) / 256 ≡ x = omega (arith, b (at + n)) in
    let q : (x * 256 + y) % 256 ≡ get_or (drop at s) n 0 = omega (arith, b (at + n), get_or-drop at s n 0) in
    let k : n < length (drop at s) = omega (arith, length-drop at s) in
    ap₂ (λ (u v : ℕ). be n u ++ (v ∷ [])) p q
    ∙ ap (λ (l : List ℕ). l ++ (get_or (drop at s) n 0 ∷ [])) (written_back n s at b (omega arith))
    ∙ sym (take-suc (drop at s) n 0 k)

-- behind a number that stands at a position
pub skip : (n x : ℕ) (s q : List ℕ) (at to : ℕ) → to ≡ at + n → drop at s ≡ be n x ++ q → drop to s ≡ q
skip n x s q at to p e =
    ap (λ (k : ℕ). drop k s) p ∙ sym (drop-drop n at s) ∙ ap (drop n) e ∙ drop_at (be n x) q n (length_be n x)

-- the number that stands at a position, and what stands behind it
pub put_back : (n : ℕ) (s l : List ℕ) (at to : ℕ) → Bytes s → at + n ≤ length s → to ≡ at + n → l ≡ drop to s → be n (be_at n s at) ++ l ≡ drop at s
put_back n s l at to b h p e =
    ap (λ (m : List ℕ). m ++ l) (written_back n s at b h)
    ∙ ap (λ (m : List ℕ). take n (drop at s) ++ m) (e ∙ ap (λ (k : ℕ). drop k s) p ∙ sym (drop-drop n at s))
    ∙ take-append-drop n (drop at s)

-- ---- what the code's proofs cite

pub at_none : (s : List ℕ) → 0 ≡ be_at 0 s 0
unfolding be_at
at_none s = refl

-- a byte more: the number stays within 64 bits
pub room : (i : ℕ) → i < 8 → 256 ^ i * 256 ≤ 2 ^ 64
room i h = omega (arith, pow-suc 256 i, pow-le-pow_right {n = 256} (omega arith) h)

pub nothing_small : (n : ℕ) → 0 < 256 ^ n
nothing_small n = one-le-pow n 256 (omega arith)

pub at_next : (s : List ℕ) (i x b : ℕ) → x ≡ be_at i s 0 → b ≡ get_or s i 0 → x * 256 + b ≡ be_at (i + 1) s 0
unfolding be_at
at_next s i x b p q = rw (add-one i, zero-add i) (omega arith)

pub below_next : (i x b : ℕ) → x < 256 ^ i → b < 256 → x * 256 + b < 256 ^ (i + 1)
below_next i x b h k = omega (arith, pow-suc 256 i, ap (λ (n : ℕ). 256 ^ n) (add-one i))

-- in the part that starts at a position
pub at_part : (n : ℕ) (s : List ℕ) (at k : ℕ) → be_at n (drop at s) k ≡ be_at n s (at + k)
unfolding be_at
at_part zero s at k = refl
at_part (suc n) s at k = rw (at_part n s at k, get_or-drop at s (k + n) 0, add_assoc at k n)

pub in_part : (n : ℕ) (s : List ℕ) (at k : ℕ) {r : ℕ} → r ≡ be_at n (take (length s - at) (drop at s)) k → r ≡ be_at n s (at + k)
in_part n s at k e = e ∙ ap (λ (l : List ℕ). be_at n l k) (take_all (length s - at) (drop at s) (omega (arith, length-drop at s))) ∙ at_part n s at k

pub from_part : (n : ℕ) (s : List ℕ) (at : ℕ) {r : ℕ} → r ≡ be_at n (take (length s - at) (drop at s)) 0 → r ≡ be_at n s at
from_part n s at e = in_part n s at 0 e ∙ ap (be_at n s) (add-zero at)

-- past the end
pub at_past : (n : ℕ) (s : List ℕ) (at : ℕ) → length s ≤ at → 0 ≡ be_at n s at
unfolding be_at
at_past zero s at h = refl
at_past (suc n) s at h = omega (arith, at_past n s at h, get_or-eq_default s 0 {n = at + n} (omega arith))
