-- The pairs one after another: what the loops' proofs cite, and what a caller learns from the reader. Assumes nothing.
use Rattle.std.specs.Prelude.{ℕ, zero, suc, ◌+◌, ◌*◌, ◌<◌, ◌≤◌, ◌≡◌, refl, ◌⊎◌, Bool, true, false, cond, List, [], ◌∷◌, length, get_or, drop, None, Some}
use Rattle.std.proofs.Common.{sym, ap, ◌∙◌, inl, inr, le_of_suc-le-suc, not-suc-le-zero, add-one, arith, lt-ltb, le-ltb, eqb-true, drop_of_length-le, drop-cons}
use Rattle.std.proofs.Math.Bool.{and-false}
use Rattle.std.proofs.Math.Option.{Option, none, some}
use Rattle.std.proofs.lemmas.List.{length-map}
use Rattle.limits.specs.declared.Field.TheVariants as field
use Rattle.limits.specs.Limits.{within}
use Rattle.model.specs.Answer.{Reply}
use Rattle.model.proofs.Laws.{and_left, either}
use Rattle.completed_packets.specs.Format.{Pair, pairs_bytes, handles_fit, pairs_of_form, masked_pair, masked_pairs}
use Rattle.completed_packets.specs.Read.{raw_pair_at, raw_pairs, said_pairs, is_completed, pairs_at, completed_in}
use Rattle.completed_packets.specs.Answer.{completed_reply, count_reply, pair_reply, blank, pair_of}

-- ---- the event's code and its lengths

module _ (s : List ℕ) where
  pub long_enough : is_completed s ≡ true → 2 < length s
  long_enough e =
      let f = eqb-true (length s) (2 + (1 + 4 * said_pairs s)) (and_left _ _ e) in omega arith

-- ---- the pairs of an event

pub length_raw : (s : List ℕ) (n at : ℕ) → length (raw_pairs s n at) ≡ n
unfolding raw_pairs
length_raw s zero at = refl
length_raw s (suc n) at = ap suc (length_raw s n (at + 4))

pub length_first : (s : List ℕ) (n : ℕ) → length (masked_pairs (raw_pairs s n 3)) ≡ n
length_first s n = length-map (raw_pairs s n 3) masked_pair ∙ length_raw s n 3

pub length_pairs : (s : List ℕ) → length (pairs_at s) ≡ said_pairs s
length_pairs s = length_first s (said_pairs s)

pub length_bytes : (ps : List Pair) → length (pairs_bytes ps) ≡ 4 * length ps
unfolding pairs_bytes
length_bytes [] = refl
length_bytes (p ∷ ps) = let e = length_bytes ps in omega arith

here : (at : ℕ) → at ≡ at + 4 * 0
here at = omega arith

place : (at i : ℕ) → at + 4 + 4 * i ≡ at + 4 * suc i
place at i = omega arith

get_raw : (s : List ℕ) (n at i : ℕ) → i < n → get_or (masked_pairs (raw_pairs s n at)) i blank ≡ masked_pair (raw_pair_at s (at + 4 * i))
unfolding raw_pairs
get_raw s zero at i h = absurd (not-suc-le-zero h)
get_raw s (suc n) at zero h = rw (← here at)
get_raw s (suc n) at (suc i) h = rw (← place at i) (get_raw s n (at + 4) i (le_of_suc-le-suc h))

module _ (s : List ℕ) where
  pub pair_get : (i : ℕ) → i < length (pairs_at s) → get_or (pairs_at s) i blank ≡ masked_pair (raw_pair_at s (3 + 4 * i))
  pair_get i h = get_raw s (said_pairs s) 3 i (omega (arith, length_pairs s))

-- ---- a pair further: what the loops over pairs go by

-- p is the pair i of the first n
pub pair_here : (s : List ℕ) (n i : ℕ) (p : Pair) → i < n → p ≡ masked_pair (raw_pair_at s (3 + 4 * i)) →
    drop i (masked_pairs (raw_pairs s n 3)) ≡ p ∷ drop (i + 1) (masked_pairs (raw_pairs s n 3))
pair_here s n i p h e =
    rw add-one
    (drop-cons (masked_pairs (raw_pairs s n 3)) i blank (omega (arith, length_first s n))
    ∙ ap (λ (q : Pair). q ∷ drop (suc i) (masked_pairs (raw_pairs s n 3))) (get_raw s n 3 i h ∙ sym e))

-- b is whether the handle of the pair i fits
module _ (ps : List Pair) (i : ℕ) where
  pub fit_bad : (p : Pair) (b : Bool) → drop i ps ≡ p ∷ drop (i + 1) ps → b ≡ within field.Handle p.handle → b ≡ false →
      handles_fit (drop i ps) ≡ false
  unfolding handles_fit
  fit_bad p b e f g = rw (e, sym f ∙ g)

  pub fit_next : (p : Pair) (b : Bool) → drop i ps ≡ p ∷ drop (i + 1) ps → b ≡ within field.Handle p.handle → b ≡ true →
      handles_fit (drop i ps) ≡ handles_fit (drop (i + 1) ps)
  unfolding handles_fit
  fit_next p b e f g = rw (e, sym f ∙ g)

  pub fit_end : length ps ≤ i → handles_fit (drop i ps) ≡ true
  unfolding handles_fit
  fit_end h = rw (drop_of_length-le ps h)

-- ---- what the reader's tests show

module _ (s : List ℕ) where
  pub not_completed : is_completed s ≡ false → completed_in s ≡ none
  not_completed e = rw e

  pub too_many : within field.Pairs (said_pairs s) ≡ false → completed_in s ≡ none
  too_many e = rw (length_pairs s, e) (either (λ (o : Option (List Pair)). o ≡ none) (is_completed s) none none refl refl)

  pub no_fit : handles_fit (pairs_at s) ≡ false → completed_in s ≡ none
  no_fit e = rw (e, and-false) (either (λ (o : Option (List Pair)). o ≡ none) (is_completed s) none none refl refl)

  pub all_fit : is_completed s ≡ true → within field.Pairs (said_pairs s) ≡ true → handles_fit (pairs_at s) ≡ true →
      completed_in s ≡ some (pairs_at s)
  all_fit e f g = rw (e, length_pairs s, f, g)

  pub all_said : is_completed s ≡ true → within field.Pairs (said_pairs s) ≡ true → handles_fit (pairs_at s) ≡ true →
      count_reply (completed_in s) ≡ completed_reply (Some (said_pairs s))
  all_said e f g = rw (all_fit e f g, length_pairs s)

-- ---- what a caller learns from the reader's answer

-- what `completed_in` is, by its two tests
abbrev pub Tested : List ℕ → Type 0
Tested s =
    (completed_in s ≡ none) ⊎ ((is_completed s ≡ true) × (pairs_of_form (pairs_at s) ≡ true) × (completed_in s ≡ some (pairs_at s)))

pub tested : (s : List ℕ) → Tested s
tested s = go (is_completed s) (pairs_of_form (pairs_at s)) refl refl
  where
    given : Bool → Bool → Option (List Pair)
    given a b = cond a (cond b (some (pairs_at s)) none) none

    go : (a b : Bool) → is_completed s ≡ a → pairs_of_form (pairs_at s) ≡ b →
        (given a b ≡ none) ⊎ ((is_completed s ≡ true) × (pairs_of_form (pairs_at s) ≡ true) × (given a b ≡ some (pairs_at s)))
    go true true e f = inr (e, f, refl)
    go true false e f = inl refl
    go false b e f = inl refl

pub read_none : (s : List ℕ) → completed_reply None ≡ count_reply (completed_in s) → completed_in s ≡ none
read_none s e = go (tested s)
  where
    go : Tested s → completed_in s ≡ none
    go (inl h) = h
    go (inr t) = let z : ◌≡◌ {A = ℕ} 9 0 = ap (λ (r : Reply). r.number) (e ∙ ap count_reply t.2) in absurd (omega arith)

pub read_pairs : (s : List ℕ) (n : ℕ) → completed_reply (Some n) ≡ count_reply (completed_in s) →
    (completed_in s ≡ some (pairs_at s)) × (length (pairs_at s) ≡ n)
read_pairs s n e = go (tested s)
  where
    go : Tested s → (completed_in s ≡ some (pairs_at s)) × (length (pairs_at s) ≡ n)
    go (inl h) = let z : ◌≡◌ {A = ℕ} 0 9 = ap (λ (r : Reply). r.number) (e ∙ ap count_reply h) in absurd (omega arith)
    go (inr t) = (t.2, sym (ap (λ (r : Reply). get_or r.values 0 0) (e ∙ ap count_reply t.2)))

module _ (s : List ℕ) where
  pub pair_none : (i : ℕ) → completed_reply None ≡ count_reply (completed_in s) →
      pair_reply None ≡ pair_of (completed_in s) i
  pair_none i e = rw (read_none s e)

  pub pair_some : (n i : ℕ) (p : Pair) → completed_reply (Some n) ≡ count_reply (completed_in s) → i < n →
      p ≡ masked_pair (raw_pair_at s (3 + 4 * i)) → pair_reply (Some p) ≡ pair_of (completed_in s) i
  pair_some n i p e h f = let k = read_pairs s n e in rw (k.0, k.1, lt-ltb i n h, f, pair_get s i (omega arith))

  pub pair_past : (n i : ℕ) → completed_reply (Some n) ≡ count_reply (completed_in s) → n ≤ i →
      pair_reply None ≡ pair_of (completed_in s) i
  pair_past n i e h = let k = read_pairs s n e in rw (k.0, k.1, le-ltb i n h)
