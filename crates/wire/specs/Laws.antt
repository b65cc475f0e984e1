-- A byte more of a message that is put into a slice. Assumes nothing.
use Rattle.std.specs.Prelude.{ℕ, zero, suc, ◌+◌, ◌≤◌, ◌<◌, ◌≡◌, refl, List, [], ◌∷◌, ◌++◌, length, take, drop, get_or, set}
use Rattle.std.proofs.Common.{ap, ◌∙◌, le_antisymm, le_of_suc-le-suc, not-suc-le-zero, add-one}
use Rattle.std.proofs.Math.Seq.{take-length}

turn : (m out : List ℕ) (i : ℕ) → i < length m → i < length out →
    set (take i m ++ drop i out) i (get_or m i 0) ≡ take (suc i) m ++ drop (suc i) out
turn [] out i h k = absurd (not-suc-le-zero h)
turn (x ∷ xs) [] i h k = absurd (not-suc-le-zero k)
turn (x ∷ xs) (y ∷ ys) zero h k = refl
turn (x ∷ xs) (y ∷ ys) (suc i) h k = ap (λ (l : List ℕ). x ∷ l) (turn xs ys i (le_of_suc-le-suc h) (le_of_suc-le-suc k))

-- the first i bytes of m stand at the start of `now`, which was `out`
pub put_next : (m out now : List ℕ) (i : ℕ) → now ≡ take i m ++ drop i out → i < length m → i < length out →
    set now i (get_or m i 0) ≡ take (i + 1) m ++ drop (i + 1) out
put_next m out now i e h k = rw (e, add-one) (turn m out i h k)

-- all of m stands there
pub put_all : (m out now : List ℕ) (i : ℕ) → now ≡ take i m ++ drop i out → i ≤ length m → length m ≤ i →
    now ≡ m ++ drop (length m) out
put_all m out now i e h k =
    e ∙ ap (λ (n : ℕ). take n m ++ drop n out) (le_antisymm h k) ∙ ap (λ (l : List ℕ). l ++ drop (length m) out) (take-length m)
