-- The text of a number by its last digit, and numbers one behind the other: what `put_number` and `put_numbers` go by. Assumes
-- nothing.
use Rattle.std.specs.Prelude.{ℕ, zero, suc, ◌+◌, ◌/◌, ◌≤◌, ◌<◌, ◌≡◌, refl, Bool, true, false, List, [], ◌∷◌, ◌++◌, ltb, length, drop, get_or}
use Rattle.std.proofs.Common.{arith, drop_of_length-le, lt-ltb, le-ltb, ltb-false}
use Rattle.text.specs.Bytes.{next}
use Rattle.number_text.specs.Number.{digit_char, digits_from, decimal_text, behind_text, numbers_text}

-- any bound that is not below the number gives the same digits
enough : (j k n : ℕ) (b : Bool) → ltb n 10 ≡ b → n ≤ j → n ≤ k → digits_from j n b ≡ digits_from k n b
unfolding digits_from
enough zero zero n b e h i = refl
enough zero (suc k) n true e h i = refl
enough zero (suc k) n false e h i = absurd (omega (arith, ltb-false n 10 e))
enough (suc j) zero n true e h i = refl
enough (suc j) zero n false e h i = absurd (omega (arith, ltb-false n 10 e))
enough (suc j) (suc k) n true e h i = refl
enough (suc j) (suc k) n false e h i =
    let l : 10 ≤ n = ltb-false n 10 e in
    rw (enough j k (n / 10) (ltb (n / 10) 10) refl (omega arith) (omega arith))

pub one_digit : (n : ℕ) → n < 10 → decimal_text n ≡ digit_char n ∷ []
unfolding decimal_text digits_from
one_digit zero h = refl
one_digit (suc m) h = rw (lt-ltb (suc m) 10 h)

pub more_digits : (n : ℕ) → 10 ≤ n → decimal_text n ≡ decimal_text (n / 10) ++ (digit_char n ∷ [])
unfolding decimal_text digits_from
more_digits zero h = absurd (omega arith)
more_digits (suc m) h =
    rw (le-ltb (suc m) 10 h, enough m (suc m / 10) (suc m / 10) (ltb (suc m / 10) 10) refl (omega arith) (omega arith))

-- for the attribute of `put_number`
pub ruleset digits = (one_digit, more_digits)

-- the numbers from i on, and none: for the attribute of `put_numbers`
pub numbers_from : (sep : ℕ) (ns : List ℕ) (i : ℕ) → i < length ns
    → numbers_text sep (drop i ns) ≡ behind_text sep (get_or ns i 0) ++ numbers_text sep (drop (i + 1) ns)
unfolding numbers_text
numbers_from sep ns i h = rw (next ns i h)

pub numbers_none : (sep : ℕ) (ns : List ℕ) (i : ℕ) → length ns ≤ i → numbers_text sep (drop i ns) ≡ []
unfolding numbers_text
numbers_none sep ns i h = rw (drop_of_length-le ns h)

pub ruleset each_number = (numbers_from, numbers_none)
