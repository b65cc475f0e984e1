-- What the functions of `text` answer. A text is a list of bytes. Assumes nothing.
use Rattle.std.specs.Prelude.{ℕ, zero, suc, ◌+◌, ◌/◌, ◌%◌, cond, List, [], ◌∷◌, ◌++◌, ltb, length, set}

-- the last digit of n: `0` to `9`, then `A` to `F`
abbrev pub hex_char : ℕ → ℕ
hex_char n = cond (ltb (n % 16) 10) (48 + n % 16) (55 + n % 16)

-- ---- bytes put into a text

-- the text with b at a position; past its end nothing is written
abbrev pub put_at : List ℕ → ℕ → ℕ → List ℕ
put_at s at b = cond (ltb at (length s)) (set s at b) s

-- the position behind the byte, or the same where nothing is written
abbrev pub put_next : List ℕ → ℕ → ℕ
put_next s at = cond (ltb at (length s)) (at + 1) at

-- bytes put one behind the other from a position on, and the position behind the last that found room
unfoldable pub put_all : List ℕ → ℕ → List ℕ → List ℕ
put_all out at [] = out
put_all out at (b ∷ s) = put_all (put_at out at b) (put_next out at) s

unfoldable pub put_end : List ℕ → ℕ → List ℕ → ℕ
put_end out at [] = at
put_end out at (b ∷ s) = put_end (put_at out at b) (put_next out at) s

-- the two digits of a byte
abbrev pub octet_text : ℕ → List ℕ
octet_text b = hex_char (b / 16) ∷ hex_char b ∷ []

unfoldable pub hex_digits : List ℕ → List ℕ
hex_digits [] = []
hex_digits (b ∷ s) = octet_text b ++ hex_digits s

-- bytes in hexadecimal: two digits each, or `-` for none
unfoldable pub hex_text : List ℕ → List ℕ
hex_text [] = 45 ∷ []
hex_text (b ∷ s) = hex_digits (b ∷ s)

-- ---- lists one behind the other

-- those of the n places from i
unfoldable pub each : {A : Type 0} → (ℕ → List A) → ℕ → ℕ → List A
each f zero i = []
each f (suc n) i = f i ++ each f n (i + 1)
