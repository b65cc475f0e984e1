-- The two tests of the code, by a field's limits. Assumes nothing.
use Rattle.std.specs.Prelude.{ℕ, ◌≤◌, ◌<◌, ◌≡◌, ◌&&◌, leb}
use Rattle.std.proofs.Common.{sym, ap, subst, ◌∙◌, le-leb}
use Rattle.std.proofs.lemmas.Bool.{lt-leb}
use Rattle.limits.specs.declared.Field.{Field}
use Rattle.limits.specs.declared.Limits.{Limits}
use Rattle.limits.specs.Limits.{low, high, limits_of, within}

pub too_low : (f : Field) (l : Limits) (v : ℕ) → l ≡ limits_of f → v < l.low → leb l.low v ≡ within f v
unfolding within
too_low f l v e h = rw e (simp (lt-leb (low f) v (subst (λ (n : ℕ). v < n) (ap (λ (l : Limits). l.low) e) h)))

pub high_enough : (f : Field) (l : Limits) (v : ℕ) → l ≡ limits_of f → l.low ≤ v → leb v l.high ≡ within f v
unfolding within
high_enough f l v e h =
    ap (λ (l : Limits). leb v l.high) e
    ∙ sym (ap (λ b. b && leb v (high f)) (le-leb (low f) v (subst (λ (n : ℕ). n ≤ v) (ap (λ (l : Limits). l.low) e) h)))
