-- What the functions of `text_read` answer. A text is a list of bytes. Assumes nothing.
use Rattle.std.specs.Prelude.{ℕ, Option, None, Some, Result, Ok, Err, ◌+◌, ◌*◌, ◌-◌, ◌^◌, Bool, cond, ◌&&◌, List, [], ◌∷◌, ltb, leb, eqb, length, drop, get_or}
use Rattle.text_read.specs.declared.NumberAt.{NumberAt}
use Rattle.text_read.specs.declared.NumberError.{NumberError}
use Rattle.text_read.specs.declared.NumberError.TheVariants as number

-- ---- a decimal number

-- `0` to `9`
abbrev pub is_digit : ℕ → Bool
is_digit b = leb 48 b && leb b 57

-- the value v with one digit more
abbrev pub more : ℕ → ℕ → ℕ
more v b = v * 10 + (b - 48)

-- a number that ends before the position i: no digit where it began there, and too large from 2^64 on
abbrev pub number_end : ℕ → ℕ → ℕ → Result NumberAt NumberError
number_end at i v = cond (eqb i at) (Err number.NoDigit) (cond (ltb v (2 ^ 64)) (Ok (record { value = v; next = i })) (Err number.TooLarge))

-- a number that began at `at`: v is the value of the digits before the position i, and the list is the text from i on
unfoldable pub number_from : ℕ → List ℕ → ℕ → ℕ → Result NumberAt NumberError
number_from at [] i v = number_end at i v
number_from at (b ∷ s) i v = cond (is_digit b) (number_from at s (i + 1) (more v b)) (number_end at i v)

-- the number at a position: as many digits as stand there
unfoldable pub number_at : List ℕ → ℕ → Result NumberAt NumberError
number_at s at = number_from at (drop at s) at 0

-- ---- its parts in the code

-- one byte more
abbrev pub step_of : ℕ → ℕ → Result (Option ℕ) NumberError
step_of v b = cond (is_digit b) (cond (ltb (more v b) (2 ^ 64)) (Ok (Some (more v b))) (Err number.TooLarge)) (Ok None)

-- the end, of a value that fits
abbrev pub ended_of : ℕ → ℕ → ℕ → Result NumberAt NumberError
ended_of at i v = cond (eqb i at) (Err number.NoDigit) (Ok (record { value = v; next = i }))

-- ---- hexadecimal digits

-- `0` to `9`, `A` to `F`, `a` to `f`
abbrev pub hex_digit : ℕ → Option ℕ
hex_digit b =
    cond (leb 48 b && leb b 57) (Some (b - 48))
    (cond (leb 65 b && leb b 70) (Some (b - 55))
    (cond (leb 97 b && leb b 102) (Some (b - 87)) None))

-- two digits make a byte
abbrev pub octet_of : Option ℕ → Option ℕ → Option ℕ
octet_of (Some h) (Some l) = Some (h * 16 + l)
octet_of (Some h) None = None
octet_of None low = None

-- the byte at a position, where both digits stand
abbrev pub octet_at : List ℕ → ℕ → Option ℕ
octet_at s at =
    cond (ltb (at + 1) (length s)) (octet_of (hex_digit (get_or s at 0)) (hex_digit (get_or s (at + 1) 0))) None

abbrev pub octet_then : Option ℕ → List ℕ → List ℕ
octet_then None rest = []
octet_then (Some v) rest = v ∷ rest

-- the bytes that stand at the start of a text, two digits each
unfoldable pub hex_bytes : List ℕ → List ℕ
hex_bytes [] = []
hex_bytes (a ∷ []) = []
hex_bytes (a ∷ b ∷ s) = octet_then (octet_of (hex_digit a) (hex_digit b)) (hex_bytes s)

-- `-`, which stands for no byte, at a position
abbrev pub is_none : List ℕ → ℕ → Bool
is_none s at = eqb (get_or s at 0) 45

-- the bytes that stand at a position
abbrev pub bytes_in : List ℕ → ℕ → List ℕ
bytes_in s at = cond (is_none s at) [] (hex_bytes (drop at s))

-- the position behind n of them
abbrev pub behind_bytes : List ℕ → ℕ → ℕ → ℕ
behind_bytes s at n = cond (is_none s at) (at + 1) (at + 2 * n)
