-- A number of 16 bits and its two bytes, and a list by its elements: what the laws of the formats go by. Assumes nothing.
use Rattle.std.specs.Prelude.{ℕ, zero, suc, ◌+◌, ◌*◌, ◌/◌, ◌%◌, ◌<◌, ◌≡◌, refl, List, [], ◌∷◌, length, get_or}
use Rattle.std.proofs.Common.{ap, subst, arith}
use Rattle.wire.specs.Wire.{u16_at}

-- a list of bytes
abbrev pub Bytes : List ℕ → Type 0
Bytes s = (i : ℕ) → get_or s i 0 < 256

-- the two bytes of a number that is made of them
pub low_byte : (a b : ℕ) → a < 256 → (a + 256 * b) % 256 ≡ a
low_byte a b h = omega arith

pub high_byte : (a b : ℕ) → a < 256 → (a + 256 * b) / 256 ≡ b
high_byte a b h = omega arith

-- the two bytes of the number that stands at a position are those that stand there
pub low_of : (s : List ℕ) → Bytes s → (i : ℕ) → u16_at s i % 256 ≡ get_or s i 0
low_of s b i = low_byte _ _ (b i)

pub high_of : (s : List ℕ) → Bytes s → (i : ℕ) → u16_at s i / 256 ≡ get_or s (i + 1) 0
high_of s b i = high_byte _ _ (b i)

-- the number of a number's two bytes is that number
pub number_of : (x : ℕ) → x % 256 + 256 * (x / 256) ≡ x
number_of x = omega arith

-- the first n values of f
abbrev pub values : (ℕ → ℕ) → ℕ → List ℕ
values f zero = []
values f (suc n) = f zero ∷ values (λ i. f (suc i)) n

elements : (s : List ℕ) → values (λ i. get_or s i 0) (length s) ≡ s
elements [] = refl
elements (x ∷ s) = ap (λ (l : List ℕ). x ∷ l) (elements s)

-- a list of length n is the list of its n elements
pub elements_of : (s : List ℕ) (n : ℕ) → length s ≡ n → values (λ i. get_or s i 0) n ≡ s
elements_of s n e = subst (λ (m : ℕ). values (λ i. get_or s i 0) m ≡ s) e (elements s)
