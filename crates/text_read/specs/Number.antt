-- One digit more of a number: what the loop of `number_at` goes by. Assumes nothing.
use Rattle.std.specs.Prelude.{ℕ, Option, None, Some, Result, Ok, Err, ◌+◌, ◌^◌, ◌≤◌, ◌<◌, ◌≡◌, refl, Bool, true, false, cond, List, [], ◌∷◌, ltb, length, drop, get_or}
use Rattle.std.proofs.Common.{sym, ap, ◌∙◌, arith, lt-ltb, le-ltb, ne_eqb, ltb-true, ltb-false, drop_of_length-le}
use Rattle.text.specs.Bytes.{next}
use Rattle.text_read.specs.declared.NumberAt.{NumberAt}
use Rattle.text_read.specs.declared.NumberError.{NumberError}
use Rattle.text_read.specs.declared.NumberError.TheVariants as number
use Rattle.text_read.specs.Read.{is_digit, more, number_end, number_from, step_of, ended_of}

either : (d : Bool) {x y z : Result NumberAt NumberError} → x ≡ z → y ≡ z → cond d x y ≡ z
either true p q = p
either false p q = q

end_large : (at i v : ℕ) → at < i → 2 ^ 64 ≤ v → number_end at i v ≡ Err number.TooLarge
end_large at i v p q = simp (ne_eqb i at (λ e. omega arith), le-ltb v (2 ^ 64) q)

ended_fits : (at i v : ℕ) → v < 2 ^ 64 → number_end at i v ≡ ended_of at i v
ended_fits at i v q = simp (lt-ltb v (2 ^ 64) q)

-- a value that is too large stays so, whatever follows
large : (at : ℕ) (s : List ℕ) (i v : ℕ) → at < i → 2 ^ 64 ≤ v → number_from at s i v ≡ Err number.TooLarge
unfolding number_from
large at [] i v p q = end_large at i v p q
large at (b ∷ s) i v p q =
    either (is_digit b) (large at s (i + 1) (more v b) (omega arith) (omega arith)) (end_large at i v p q)

-- the number, by what the byte at i makes of v; s is the text behind it
abbrev pub after_step : Result (Option ℕ) NumberError → ℕ → List ℕ → ℕ → ℕ → Result NumberAt NumberError
after_step (Ok None) at s i v = ended_of at i v
after_step (Err e) at s i v = Err e
after_step (Ok (Some w)) at s i v = number_from at s (i + 1) w

by_cases : (at i v b : ℕ) (s : List ℕ) (d l : Bool) → ltb (more v b) (2 ^ 64) ≡ l → at ≤ i → v < 2 ^ 64 →
    cond d (number_from at s (i + 1) (more v b)) (number_end at i v) ≡
    after_step (cond d (cond l (Ok (Some (more v b))) (Err number.TooLarge)) (Ok None)) at s i v
by_cases at i v b s true true e p q = refl
by_cases at i v b s true false e p q = large at s (i + 1) (more v b) (omega arith) (ltb-false _ _ e)
by_cases at i v b s false l e p q = ended_fits at i v q

stepped : (at : ℕ) (s : List ℕ) (i v : ℕ) → i < length s → at ≤ i → v < 2 ^ 64 →
    number_from at (drop i s) i v ≡ after_step (step_of v (get_or s i 0)) at (drop (i + 1) s) i v
unfolding number_from
stepped at s i v h p q =
    rw (next s i h) (by_cases at i v (get_or s i 0) (drop (i + 1) s) (is_digit (get_or s i 0)) _ refl p q)

-- the same for a number that is known to go on at i, and a step that is known to be taken there
pub turned : {n : Result NumberAt NumberError} (at : ℕ) (s : List ℕ) (i v : ℕ) (x : Result (Option ℕ) NumberError) → n ≡ number_from at (drop i s) i v →
    x ≡ step_of v (get_or s i 0) → i < length s → at ≤ i → v < 2 ^ 64 → n ≡ after_step x at (drop (i + 1) s) i v
turned at s i v x e f h p q =
    e ∙ stepped at s i v h p q ∙ ap (λ (y : Result (Option ℕ) NumberError). after_step y at (drop (i + 1) s) i v) (sym f)

-- past the end of the text the number ends
pub at_end : (at : ℕ) (s : List ℕ) (i v : ℕ) → length s ≤ i → v < 2 ^ 64 → number_from at (drop i s) i v ≡ ended_of at i v
unfolding number_from
at_end at s i v h q = rw (drop_of_length-le s h) (ended_fits at i v q)

-- a number that goes on is one that 64 bits hold
fits_by : (d l : Bool) (m w : ℕ) → (l ≡ true → m < 2 ^ 64) → cond d (cond l (Ok (Some m)) (Err number.TooLarge)) (Ok None) ≡ Ok (Some w)
    → w < 2 ^ 64
fits_by true true m w f e = let z : m ≡ w = cc in omega (arith, f refl)
fits_by true false m w f e = let z : ◌≡◌ {A = ℕ} 0 1 = cc in absurd (omega arith)
fits_by false l m w f e = let z : ◌≡◌ {A = ℕ} 0 1 = cc in absurd (omega arith)

pub step_fits : (v b w : ℕ) → Ok (Some w) ≡ step_of v b → w < 2 ^ 64
step_fits v b w e = fits_by (is_digit b) _ (more v b) w (ltb-true (more v b) (2 ^ 64)) (sym e)
