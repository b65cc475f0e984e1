-- Calls of one key after those of another: each key keeps its own. Assumes nothing.
use Rattle.std.specs.Prelude.{◌≡◌, refl, ◌≢◌, ◌⊎◌, Bool, true, false, ℕ, T, eqb}
use Rattle.std.proofs.Common.{sym, ap, ◌∙◌, subst, inl, inr, ⊎_elim, eqb→eq}
use mathlib.Core.List.Memᴰ
use mathlib.Core.List.{List, [], ◌∷◌, ◌++◌, append-nil, nil≢cons, head-eq_of_cons-eq, tail-eq_of_cons-eq, Memᴰ}
use Rattle.std.proofs.Math.Dec.{eqb_refl}
use Rattle.shuffle.specs.Shuffle.{only, same?, only_hit, only_miss, by_key, All, all_append, all_only, serial, Distinct}

in? : (i : ℕ) (js : List ℕ) → Memᴰ i js ⊎ (Memᴰ i js → ⊥)
in? i [] = inr Memᴰ.not-nil
in? i (j ∷ js) =
    ⊎_elim
    (λ h. inl (Memᴰ.head h.0))
    (λ h.
    ⊎_elim
    (λ m. inl (Memᴰ.tail m))
    (λ n. inr (λ m. ⊎_elim h.0 n (Memᴰ.cases_cons m)))
    (in? i js))
    (same? i j)

module _ {X : Type 0} (key : X → ℕ) where
  only_append : (i : ℕ) (xs ys : List X) → only key i (xs ++ ys) ≡ only key i xs ++ only key i ys
  only_append i [] ys = refl
  only_append i (x ∷ xs) ys =
      by_key key i x
      (λ p. rw (only_hit key i x (xs ++ ys) p, only_hit key i x xs p, only_append i xs ys))
      (λ m. rw (only_miss key i x (xs ++ ys) m, only_miss key i x xs m, only_append i xs ys))

  pub only_idem : (i : ℕ) (xs : List X) → only key i (only key i xs) ≡ only key i xs
  only_idem i [] = refl
  only_idem i (x ∷ xs) =
      by_key key i x
      (λ p. rw (only_hit key i x xs p, only_hit key i x (only key i xs) p, only_idem i xs))
      (λ m. rw (only_miss key i x xs m, only_idem i xs))

  pub only_apart : (i j : ℕ) (xs : List X) → i ≢ j → only key i (only key j xs) ≡ []
  only_apart i j [] n = refl
  only_apart i j (x ∷ xs) n =
      by_key key j x
      (λ p. rw (only_hit key j x xs p, only_miss key i x (only key j xs) (λ q. n (q ∙ sym p)), only_apart i j xs n))
      (λ m. rw (only_miss key j x xs m, only_apart i j xs n))

  serial_out : (i : ℕ) (js : List ℕ) (t : List X) → (Memᴰ i js → ⊥) → only key i (serial key js t) ≡ []
  serial_out i [] t n = refl
  serial_out i (j ∷ js) t n =
      rw (
        only_append i (only key j t) (serial key js t),
        only_apart i j t (λ p. n (Memᴰ.head p)),
        serial_out i js t (λ m. n (Memᴰ.tail m)),
      )

  serial_in : (i : ℕ) (js : List ℕ) (t : List X) → Distinct js → Memᴰ i js → only key i (serial key js t) ≡ only key i t
  serial_in i [] t a m = absurd (Memᴰ.not-nil m)
  serial_in i (j ∷ js) t a m =
      only_append i (only key j t) (serial key js t)
      ∙ ⊎_elim
      (λ h. rw (h.0, only_idem j t, serial_out j js t a.0) (append-nil _))
      (λ h.
      rw (only_apart i j t h.0)
      (serial_in i js t a.1 (⊎_elim (λ p. absurd (h.0 p)) (λ m'. m') (Memᴰ.cases_cons m))))
      (same? i j)

  uncovered : (i : ℕ) (js : List ℕ) (t : List X) → All (λ x. Memᴰ (key x) js) t → (Memᴰ i js → ⊥) → only key i t ≡ []
  uncovered i js [] c n = refl
  uncovered i js (x ∷ t) c n =
      only_miss key i x t (λ p. n (Memᴰ.cast p c.0)) ∙ uncovered i js t c.1 n

  -- distinct keys that are all those of `t`: the rearranged trace has the calls of each key as `t` has them
  pub only_serial : (js : List ℕ) (t : List X) → Distinct js → All (λ x. Memᴰ (key x) js) t
      → (i : ℕ) → only key i (serial key js t) ≡ only key i t
  only_serial js t a c i =
      ⊎_elim (λ m. serial_in i js t a m) (λ n. serial_out i js t n ∙ sym (uncovered i js t c n)) (in? i js)

  pub all_serial : (P : X → Type 0) (js : List ℕ) (t : List X) → All P t → All P (serial key js t)
  all_serial P [] t a = tt
  all_serial P (j ∷ js) t a = all_append P (only key j t) (serial key js t) (all_only key P j t a) (all_serial P js t a)
