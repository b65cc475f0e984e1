-- Whether a test holds of each number below n. Assumes nothing.
use Prim.Native.Nat.{ℕ, zero, suc, ◌+◌, ◌<◌}
use Rattle.std.specs.Prelude.{◌≡◌, Bool, true, ◌&&◌, eqb}
use Rattle.std.proofs.Math.Path.{refl, ap}
use Rattle.std.proofs.Common.{sym, ◌∙◌, add-one, arith}
use Rattle.std.proofs.Math.Bool.{false, and-false}
use borrow.Author.Tests.{eqb-true, eqb-false}
use Rattle.model.proofs.Laws.{and_left, and_right, split}

unfoldable pub all_below : (ℕ → Bool) → ℕ → Bool
all_below test zero = true
all_below test (suc n) = all_below test n && test n

module _ (test : ℕ → Bool) where
  pub all_none : all_below test 0 ≡ true
  unfolding all_below
  all_none = refl

  -- one more
  pub all_next : (n : ℕ) → all_below test n ≡ true → test n ≡ true → all_below test (n + 1) ≡ true
  unfolding all_below
  all_next n p q = rw (add-one, p, q)

  pub all_from : (n : ℕ) → ((j : ℕ) → j < n → test j ≡ true) → all_below test n ≡ true
  unfolding all_below
  all_from zero h = refl
  all_from (suc n) h = rw (all_from n (λ j l. h j (omega arith))) (h n (omega arith))

  pub all_each : (n : ℕ) → all_below test n ≡ true → (j : ℕ) → j < n → test j ≡ true
  unfolding all_below
  all_each zero e j l = absurd (omega arith)
  all_each (suc n) e j l =
      split (eqb j n)
      (λ q. ap test (eqb-true j n q) ∙ and_right (all_below test n) (test n) e)
      (λ q. all_each n (and_left (all_below test n) (test n) e) j (omega (arith, eqb-false j n q)))

  -- one that fails
  pub all_fails : (n j : ℕ) → j < n → test j ≡ false → all_below test n ≡ false
  unfolding all_below
  all_fails zero j l e = absurd (omega arith)
  all_fails (suc n) j l e =
      split (eqb j n)
      (λ q. let p : test n ≡ false = ap test (sym (eqb-true j n q)) ∙ e in rw p (and-false (all_below test n)))
      (λ q. rw (all_fails n j (omega (arith, eqb-false j n q)) e))
