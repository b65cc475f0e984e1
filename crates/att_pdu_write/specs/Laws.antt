-- The value put behind the first three bytes: what the writer of an indication goes by. Assumes nothing.
use Rattle.std.specs.Prelude.{ℕ, suc, ◌+◌, ◌≤◌, ◌-◌, ◌≡◌, true, List, [], ◌∷◌, ◌++◌, length, take, drop}
use Rattle.std.proofs.Common.{ap, ◌∙◌, append-nil, arith, le-leb, length-drop, drop-drop}
use Rattle.std.proofs.Math.Seq.{take-length, drop-length}
use Rattle.wire.specs.Wire.{written}
use Rattle.att_pdu.specs.Indication.{less_three}

pub three_more : (n : ℕ) → 3 + n ≡ suc (suc (suc n))
three_more n = omega arith

module _ (a b c : ℕ) (v : List ℕ) where
  behind : (t p : List ℕ) → length v ≤ length t → p ≡ written true v (take (length (a ∷ b ∷ c ∷ t) - 3) t) →
      a ∷ b ∷ c ∷ (p ++ drop (length (a ∷ b ∷ c ∷ t) - 3) t) ≡ a ∷ b ∷ c ∷ (v ++ drop (length v) t)
  behind t p h f =
      let q : p ≡ v ++ drop (length v) t = f ∙ simp (less_three, take-length t, le-leb (length v) (length t) h) in
      simp (q, less_three, drop-length t, append-nil)

  -- `o` is `out` with three bytes at its start, and `p` what stands behind them, with the value at its start
  pub put_behind : (out o p : List ℕ) → 3 + length v ≤ length out →
      o ≡ written true (a ∷ b ∷ c ∷ []) out → p ≡ written true v (take (length o - 3) (drop 3 o)) →
      take 3 o ++ (p ++ drop (length o - 3) (drop 3 o)) ≡ written true (a ∷ b ∷ c ∷ v) out
  put_behind out o p h e f =
      let q : o ≡ a ∷ b ∷ c ∷ drop 3 out = e ∙ simp (le-leb 3 (length out) (omega arith)) in
      rw q
      (behind (drop 3 out) p (simp length-drop (omega arith)) (rw q at f)
      ∙ simp (le-leb (suc (suc (suc (length v)))) (length out) (omega arith), drop-drop (length v) 3 out ∙ ap (λ (n : ℕ). drop n out) (three_more (length v))))
