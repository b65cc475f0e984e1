-- A list put into another from a position on: in two parts, a number from its last byte to its first, bytes from the first to the
-- last. Assumes nothing.
use Rattle.std.specs.Prelude.{ℕ, suc, ◌+◌, ◌-◌, ◌/◌, ◌%◌, ◌<◌, ◌≤◌, ◌≡◌, List, [], ◌∷◌, ◌++◌, length, set, get_or, drop}
use Rattle.std.proofs.Common.{sym, ap, ◌∙◌, add-zero, add-one, arith, drop_of_length-le, drop-cons}
use Rattle.std.proofs.lemmas.List.Edits.{sets}
use Rattle.std.proofs.lemmas.List.{set_comm}
use Rattle.big_endian.specs.BigEndian.{be}
use Rattle.big_endian.specs.Laws.{length_be}

pub sets_append : (l q out : List ℕ) (at : ℕ) → sets out at (l ++ q) ≡ sets (sets out at l) (at + length l) q
sets_append [] q out at = ap (λ (k : ℕ). sets out k q) (sym (add-zero at))
sets_append (a ∷ l) q out at =
    let p : suc at + length l ≡ at + suc (length l) = omega arith in
    sets_append l q (set out at a) (suc at) ∙ ap (λ (k : ℕ). sets (sets (set out at a) (suc at) l) k q) p

-- what stands behind a list that was put
pub put_behind : (l q out next : List ℕ) (at to : ℕ) → next ≡ sets out at l → to ≡ at + length l → sets out at (l ++ q) ≡ sets next to q
put_behind l q out next at to e p = sets_append l q out at ∙ (λ k. sets (sym e k) (sym p k) q)

-- .. that is a number
pub number_behind : (n x : ℕ) (q out next : List ℕ) (at to : ℕ) → next ≡ sets out at (be n x) → to ≡ at + n
    → sets out at (be n x ++ q) ≡ sets next to q
number_behind n x q out next at to e p = put_behind (be n x) q out next at to e (omega (arith, length_be n x))

-- ---- a number

-- the last may be put first
sets_last : (l out : List ℕ) (at b : ℕ) → sets out at (l ++ (b ∷ [])) ≡ sets (set out (at + length l) b) at l
sets_last [] out at b = ap (λ (k : ℕ). set out k b) (sym (add-zero at))
sets_last (a ∷ l) out at b =
    let p : suc at + length l ≡ at + suc (length l) = omega arith in
    sets_last l (set out at a) (suc at) b
    ∙ ap (λ (m : List ℕ). sets m (suc at) l) (set_comm out at (suc at + length l) a b (λ e. omega arith))
    ∙ ap (λ (k : ℕ). sets (set (set out k b) at a) (suc at) l) p

one : (out : List ℕ) (at k x : ℕ) → sets out at (be (suc k) x) ≡ sets (set out (at + k) (x % 256)) at (be k (x / 256))
unfolding be
one out at k x =
    sets_last (be k (x / 256)) out at (x % 256) ∙ ap (λ (n : ℕ). sets (set out (at + n) (x % 256)) at (be k (x / 256))) (length_be k (x / 256))

pub put_byte : (out next : List ℕ) (at i x : ℕ) → next ≡ set out (at + (i - 1)) (x % 256) → 0 < i
    → sets out at (be i x) ≡ sets next at (be (i - 1) (x / 256))
put_byte out next at i x e h =
    let p : i ≡ suc (i - 1) = omega arith in
    ap (λ (k : ℕ). sets out at (be k x)) p ∙ one out at (i - 1) x ∙ ap (λ (l : List ℕ). sets l at (be (i - 1) (x / 256))) (sym e)

pub put_none : (out : List ℕ) (at i x : ℕ) → i ≡ 0 → sets out at (be i x) ≡ out
unfolding be
put_none out at i x e = rw e

-- ---- bytes

pub put_next : (out next s : List ℕ) (at i : ℕ) → next ≡ set out (at + i) (get_or s i 0) → i < length s
    → sets out (at + i) (drop i s) ≡ sets next (at + (i + 1)) (drop (i + 1) s)
put_next out next s at i e h =
    let p : at + (i + 1) ≡ suc (at + i) = omega arith in
    rw (e, p, add-one i, drop-cons s i 0 h)

pub put_all : (out s : List ℕ) (at i : ℕ) → length s ≤ i → sets out (at + i) (drop i s) ≡ out
put_all out s at i h = rw (drop_of_length-le s h)
