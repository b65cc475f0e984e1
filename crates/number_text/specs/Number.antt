-- Numbers as text. A text is a list of bytes. Assumes nothing.
use Rattle.std.specs.Prelude.{ℕ, zero, suc, ◌+◌, ◌/◌, ◌%◌, Bool, true, false, List, [], ◌∷◌, ◌++◌, ltb}

-- the last digit of n, `0` to `9`
abbrev pub digit_char : ℕ → ℕ
digit_char n = 48 + n % 10

-- the digits of n, the most significant first: where it is below 10 one digit, else those of n / 10 and then the last. k bounds how
-- many follow the first
unfoldable pub digits_from : ℕ → ℕ → Bool → List ℕ
digits_from zero n b = digit_char n ∷ []
digits_from (suc k) n true = digit_char n ∷ []
digits_from (suc k) n false = digits_from k (n / 10) (ltb (n / 10) 10) ++ (digit_char n ∷ [])

-- n in decimal, in as few digits as it has. No number has more digits behind the first than it counts
unfoldable pub decimal_text : ℕ → List ℕ
decimal_text n = digits_from n n (ltb n 10)

-- a number behind a separator
abbrev pub behind_text : ℕ → ℕ → List ℕ
behind_text sep n = sep ∷ decimal_text n

-- several, each behind a separator
unfoldable pub numbers_text : ℕ → List ℕ → List ℕ
numbers_text sep [] = []
numbers_text sep (n ∷ ns) = behind_text sep n ++ numbers_text sep ns

-- several with a separator between
abbrev pub separated : ℕ → List ℕ → List ℕ
separated sep [] = []
separated sep (n ∷ ns) = decimal_text n ++ numbers_text sep ns

-- a flag as a number: 1 where it is set
abbrev pub bit_of : Bool → ℕ
bit_of true = 1
bit_of false = 0
