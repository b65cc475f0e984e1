-- Bytes put one behind the other: what the loops of `put_all`, `put_hex` and `text_read::bytes_at` go by. Assumes nothing.
use Rattle.std.specs.Prelude.{ℕ, ◌+◌, ◌≤◌, ◌<◌, ◌≡◌, refl, List, [], ◌∷◌, ◌++◌, length, drop, get_or}
use Rattle.std.proofs.Common.{not-suc-le-zero, add-one, arith, le-ltb, drop_of_length-le, drop-cons}
use Rattle.text.specs.Text.{put_all, put_end, octet_text, hex_digits, hex_text}

-- the text from a position on, by its first byte
pub next : (s : List ℕ) (i : ℕ) → i < length s → drop i s ≡ get_or s i 0 ∷ drop (i + 1) s
next s i h = rw (add-one, drop-cons s i 0 h)

pub none_left : (s : List ℕ) (i : ℕ) → length s ≤ i → drop i s ≡ []
none_left s i h = drop_of_length-le s h

pub ruleset each_byte = (next, none_left)

-- the same in hexadecimal
pub next_digits : (s : List ℕ) (i : ℕ) → i < length s → hex_digits (drop i s) ≡ octet_text (get_or s i 0) ++ hex_digits (drop (i + 1) s)
unfolding hex_digits
next_digits s i h = rw (next s i h)

pub no_digits : (s : List ℕ) (i : ℕ) → length s ≤ i → hex_digits (drop i s) ≡ []
unfolding hex_digits
no_digits s i h = rw (drop_of_length-le s h)

-- no room is left
pub full : (o : List ℕ) (a : ℕ) (s : List ℕ) → length o ≤ a → (put_all o a s ≡ o) × (put_end o a s ≡ a)
unfolding put_all put_end
full o a [] h = (refl, refl)
full o a (b ∷ s) h = simp (le-ltb a (length o) h) (full o a s h)

-- the text of some bytes, and of none
pub text_some : (s : List ℕ) → 0 < length s → hex_text s ≡ hex_digits s
unfolding hex_text
text_some [] h = absurd (not-suc-le-zero h)
text_some (b ∷ s) h = refl

pub text_none : (s : List ℕ) → length s ≡ 0 → hex_text s ≡ 45 ∷ []
unfolding hex_text
text_none [] h = refl
text_none (b ∷ s) h = absurd (omega arith)

pub ruleset each_octet = (next_digits, no_digits, text_some, text_none)
