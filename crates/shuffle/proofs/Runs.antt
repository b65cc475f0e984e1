-- The theorems: the answers of one key's calls, and the state in which a trace ends. Assumes nothing.
use Rattle.std.specs.Prelude.{◌≡◌, refl, ◌≢◌, ◌⊎◌, Bool, true, false, ℕ, T, eqb}
use Rattle.std.proofs.Common.{sym, ap, ◌∙◌, subst, inl, inr, ⊎_elim, eqb→eq}
use mathlib.Core.List.Memᴰ
use mathlib.Core.List.{List, [], ◌∷◌, ◌++◌, append-nil, nil≢cons, head-eq_of_cons-eq, tail-eq_of_cons-eq, Memᴰ}
use Rattle.std.proofs.Math.Dec.{eqb_refl}
use Rattle.shuffle.specs.Shuffle.{only, only_hit, only_miss, by_key, del, del_hit, del_miss, del_other, del_same, All, all_del, answers, end, tag}
use Rattle.shuffle.proofs.Past.{past}

module _
    {W E A : Type 0} (key : E → ℕ) (step : E → W → A × W) (Ok : E → Type 0) (Inv : W → Type 0)
    (keeps : (e : E) (w : W) → Ok e → Inv w → Inv (step e w).1)
    (commute : (e f : E) (w : W) → Ok e → Ok f → Inv w → key e ≢ key f → (step f (step e w).1).1 ≡ (step e (step f w).1).1)
    (unmoved : (e f : E) (w : W) → Ok e → Ok f → Inv w → key e ≢ key f → (step f (step e w).1).0 ≡ (step f w).0)
  where
    -- (1) the answers to the calls of key i are those of running these calls alone
    pub alone : (i : ℕ) (t : List E) (w : W) → All Ok t → Inv w
        → only tag i (answers key step t w) ≡ answers key step (only key i t) w
    alone i [] w a v = refl
    alone i (x ∷ t) w a v =
        by_key key i x
        (λ p.
        only_hit tag i (key x, (step x w).0) (answers key step t (step x w).1) p
        ∙ rw (only_hit key i x t p, alone i t (step x w).1 a.1 (keeps x w a.0 v)))
        (λ m.
        only_miss tag i (key x, (step x w).0) (answers key step t (step x w).1) m
        ∙ alone i t (step x w).1 a.1 (keeps x w a.0 v)
        ∙ rw (only_miss key i x t m) (past key step Ok Inv keeps commute unmoved i t x w a.1 a.0 v m))

    -- the first call of its key can be made before all others
    pull : (e : E) (r t : List E) (w : W) → Ok e → All Ok t → Inv w → only key (key e) t ≡ e ∷ r
        → end step t w ≡ end step (del key (key e) t) (step e w).1
    pull e r [] w o a v q = absurd (nil≢cons q)
    pull e r (x ∷ t) w o a v q =
        by_key key (key e) x
        (λ p.
        rw (del_hit key (key e) x t p)
        (ap (λ (z : E). end step t (step z w).1) (head-eq_of_cons-eq (sym (only_hit key (key e) x t p) ∙ q))))
        (λ m.
        rw (del_miss key (key e) x t m)
        (pull e r t (step x w).1 o a.1 (keeps x w a.0 v) (sym (only_miss key (key e) x t m) ∙ q)
        ∙ ap (λ (z : W). end step (del key (key e) t) z) (commute x e w a.0 o v (λ s. m (sym s)))))

    -- (2) two traces with the same calls of each key end alike
    pub same_end : (t t' : List E) (w : W) → All Ok t → All Ok t' → Inv w
        → ((i : ℕ) → only key i t ≡ only key i t') → end step t w ≡ end step t' w
    same_end [] [] w a a' v q = refl
    same_end [] (x ∷ t') w a a' v q = absurd (nil≢cons (q (key x) ∙ only_hit key (key x) x t' refl))
    same_end (e ∷ t) t' w a a' v q =
        same_end t (del key (key e) t') (step e w).1 a.1 (all_del key Ok (key e) t' a') (keeps e w a.0 v) (λ i. left i)
        ∙ sym (pull e (only key (key e) t) t' w a.0 a' v first)
      where
        first : only key (key e) t' ≡ e ∷ only key (key e) t
        first = sym (q (key e)) ∙ only_hit key (key e) e t refl

        left : (i : ℕ) → only key i t ≡ only key i (del key (key e) t')
        left i =
            by_key key i e
            (λ p. rw p (sym (del_same key (key e) e (only key (key e) t) t' first)))
            (λ m. sym (only_miss key i e t m) ∙ q i ∙ sym (del_other key (key e) i t' m))

-- two steps that agree where an invariant holds that the second keeps: the same answers, and the same end
module _
    {W E A : Type 0} (key : E → ℕ) (one two : E → W → A × W) (Ok : E → Type 0) (Inv : W → Type 0)
    (keeps : (e : E) (w : W) → Ok e → Inv w → Inv (two e w).1)
    (agree : (e : E) (w : W) → Ok e → Inv w → one e w ≡ two e w)
  where
    pub agree_answers : (t : List E) (w : W) → All Ok t → Inv w → answers key one t w ≡ answers key two t w
    agree_answers [] w a v = refl
    agree_answers (e ∷ t) w a v =
        rw (agree e w a.0 v, agree_answers t (two e w).1 a.1 (keeps e w a.0 v))

    pub agree_end : (t : List E) (w : W) → All Ok t → Inv w → end one t w ≡ end two t w
    agree_end [] w a v = refl
    agree_end (e ∷ t) w a v =
        rw (agree e w a.0 v) (agree_end t (two e w).1 a.1 (keeps e w a.0 v))
