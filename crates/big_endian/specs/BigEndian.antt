-- Numbers as bytes, most significant first, over the number of bytes. Assumes nothing.
use Rattle.std.specs.Prelude.{ℕ, zero, suc, ◌+◌, ◌*◌, ◌/◌, ◌%◌, List, [], ◌∷◌, ◌++◌, get_or}

-- a number of n bytes
unfoldable pub be : ℕ → ℕ → List ℕ
be zero x = []
be (suc n) x = be n (x / 256) ++ (x % 256 ∷ [])

-- the number that the n bytes from a position on are
unfoldable pub be_at : ℕ → List ℕ → ℕ → ℕ
be_at zero s at = 0
be_at (suc n) s at = be_at n s at * 256 + get_or s (at + n) 0
