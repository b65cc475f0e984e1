-- A call of another key changes no answer of the calls of a key. Assumes nothing.
use Rattle.std.specs.Prelude.{◌≡◌, refl, ◌≢◌, ◌⊎◌, Bool, true, false, ℕ, T, eqb}
use Rattle.std.proofs.Common.{sym, ap, ◌∙◌, subst, inl, inr, ⊎_elim, eqb→eq}
use mathlib.Core.List.Memᴰ
use mathlib.Core.List.{List, [], ◌∷◌, ◌++◌, append-nil, nil≢cons, head-eq_of_cons-eq, tail-eq_of_cons-eq, Memᴰ}
use Rattle.std.proofs.Math.Dec.{eqb_refl}
use Rattle.shuffle.specs.Shuffle.{only, only_hit, only_miss, by_key, All, answers}

module _
    {W E A : Type 0} (key : E → ℕ) (step : E → W → A × W) (Ok : E → Type 0) (Inv : W → Type 0)
    (keeps : (e : E) (w : W) → Ok e → Inv w → Inv (step e w).1)
    (commute : (e f : E) (w : W) → Ok e → Ok f → Inv w → key e ≢ key f → (step f (step e w).1).1 ≡ (step e (step f w).1).1)
    (unmoved : (e f : E) (w : W) → Ok e → Ok f → Inv w → key e ≢ key f → (step f (step e w).1).0 ≡ (step f w).0)
  where
    -- a call of another key before them changes no answer of the calls of key i
    pub past : (i : ℕ) (t : List E) (e : E) (w : W) → All Ok t → Ok e → Inv w → i ≢ key e
        → answers key step (only key i t) (step e w).1 ≡ answers key step (only key i t) w
    past i [] e w a o v n = refl
    past i (x ∷ t) e w a o v n =
        by_key key i x
        (λ p.
        let m : key e ≢ key x = (λ q. n (p ∙ sym q)) in
        rw (
          only_hit key i x t p,
          unmoved e x w o a.0 v m,
          commute e x w o a.0 v m,
          past i t e (step x w).1 a.1 o (keeps x w a.0 v) n,
        ))
        (λ m. rw (only_miss key i x t m) (past i t e w a.1 o v n))
