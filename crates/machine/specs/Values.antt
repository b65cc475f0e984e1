-- What `Returns` says of a function of values to a value, with nothing left of the logic: from every memory its routine ends, with
-- the value of a result of which the contract's fact holds. A value owns nothing, so it is there in every memory. Assumes nothing.
use Rattle.std.specs.Prelude.{ℕ, ◌≡◌, List, [], ◌∷◌}
use Rattle.std.proofs.Common.{ap, subst}
use Rattle.std.proofs.Math.Logic.{∥∥₁_map}
use base.Logic.{SProp, ent, sep, emp, id⊢, via, mono_l, fst∗, snd∗, emp∗, comm∗, ex_e}
use mir.Val.{Val}
use prog.Memory.{Memory}
use prog.Routine.{Routine, ends}
use ghost.Model.{𝓤, H}
use types.Logic.{sem}
use contract.BorrowModel.{logic₀}
use contract.Closed.{model⁺}
use contract.Monad.{fact, conj, sep→conj}
use contract.Lifetimes.{Lfts}
use contract.Adequate.{sat_fact}
use denote.RattleType.{RattleType, Denots, Valss, owns}
use denote.Laws.{Is, Tells, Makes, shows, both_say}
use denote.Signature.{Slot, Signature, plain, type_at, types_at}
use denote.Steps.{only}
use denote.Triple.Entry.{Args, Res, alive}
use denote.Triple.Bound.{Bound}
use denote.Triple.End.{Kepts, Fins, Outs, outs, lasts_of}
use denote.Triple.Spec.{Back, exits}
use Rattle.machine.specs.Returns.{Contract, clauses, After}

-- a fact that the clauses state at a function's end
pub stated : (S : Signature) (ks : Kepts S.params) (κs : Lfts S.lifetimes) (a : Args S κs) (Q : Outs κs S.params ks → SProp 𝓤) (φ : Type 0)
    → ((e : Outs κs S.params ks) → ent 𝓤 (Q e) (fact 𝓤 φ)) → ent 𝓤 (exits logic₀ S ks κs a Q) (fact 𝓤 φ)
stated S ks κs a Q φ h =
    let left : Fins κs S.params ks a → SProp 𝓤 = λ ws. sem logic₀ (lasts_of κs S.params ks a ws) in
    let said : Fins κs S.params ks a → SProp 𝓤 = λ ws. Q (outs κs S.params ks a ws) in
    ex_e 𝓤 (λ ws. sep 𝓤 (left ws) (said ws)) (λ ws. via 𝓤 (said ws) (snd∗ 𝓤 (left ws) (said ws)) (h (outs κs S.params ks a ws)))

-- what is left after a run, where the contract ensures the fact φ of the result: its machine value, and the fact
pub read : (S : Signature) (c : Contract S) (x : Bound logic₀ S) (φ : Res S x.0 → Type 0)
    → ((g : (clauses S c x.0 x.3).ghost) (r : Res S x.0) → ent 𝓤 ((clauses S c x.0 x.3).ensures g r) (fact 𝓤 (φ r)))
    → (v : Val) (σ : Memory) (F : SProp 𝓤) → After S c x v σ F → ∥ ((r : Res S x.0) × Is (type_at S.result x.0) r (v ∷ []) × φ r) ∥₁
read S c x φ says v σ F after =
    let r : Res S x.0 = after.1 in
    let IsR : Type 0 = Is (type_at S.result x.0) r (v ∷ []) in
    let own : SProp 𝓤 = sem logic₀ ((type_at S.result x.0).own_val r (v ∷ [])) in
    let back : SProp 𝓤 = Back logic₀ S x v r in
    let said : SProp 𝓤 = (clauses S c x.0 x.3).ensures after.0 r in
    ∥∥₁_map
    (sat_fact 𝓤 H model⁺ σ (sep 𝓤 (sep 𝓤 back said) F) (IsR × φ r)
    (via 𝓤 (sep 𝓤 (sep 𝓤 back said) F) (snd∗ 𝓤 (model⁺.mem σ) (sep 𝓤 (sep 𝓤 back said) F))
    (via 𝓤 (sep 𝓤 back said) (fst∗ 𝓤 (sep 𝓤 back said) F)
    (via 𝓤 (conj 𝓤 back said) (sep→conj 𝓤 back said)
    (both_say logic₀ IsR (φ r)
    (via 𝓤 own (snd∗ 𝓤 (alive logic₀ S x.0 x.1) own) (shows logic₀ (type_at S.result x.0) r (v ∷ []))) (says after.0 r)))))
    after.2)
    (λ p. (r, p.0, p.1))

-- the value that is returned is that of the result
pub returned_value : (R : RattleType) (value : R.Denot → Val) → Tells R (Is R) (λ r. value r ∷ [])
    → (ρ : Routine) (us : List Val) (σ : Memory) (φ : R.Denot → Type 0) (v : Val) (σ' : Memory) → ends ρ us σ v σ'
    → (r : R.Denot) × Is R r (v ∷ []) × φ r
    → (r : R.Denot) × (σ'' : Memory) × ends ρ us σ (value r) σ'' × Is R r (value r ∷ []) × φ r
returned_value R value tells ρ us σ φ v σ' e p =
    let same : v ≡ value p.0 = ap only (tells p.0 (v ∷ []) p.1) in
    (p.0, σ', subst (λ (x : Val). ends ρ us σ x σ') same e, subst (λ (x : Val). Is R p.0 (x ∷ [])) same p.1, p.2)

-- ---- arguments that are values

-- a value of each type, its machine value, that the type owns nothing, and that it is a value of its type
abbrev pub Handed : List RattleType → Type 1
Handed [] = Unit {1}
Handed (P ∷ Ps) = ((a : P.Denot) × (u : Val) × Makes logic₀ P (Is P) × Is P a (u ∷ [])) × Handed Ps

-- they stand in front of other arguments
module _ {n : ℕ} (more : List (Slot n)) where
  abbrev pub slots : List RattleType → List (Slot n)
  slots [] = more
  slots (P ∷ Ps) = plain (λ κs. P) ∷ slots Ps

  module _ (κs : Lfts n) (b : Denots (types_at more κs)) (ws : Valss (types_at more κs)) where
    abbrev pub args : (Ps : List RattleType) → Handed Ps → Denots (types_at (slots Ps) κs)
    args [] h = b
    args (P ∷ Ps) h = (h.0.0, args Ps h.1)

    abbrev pub vals : (Ps : List RattleType) → Handed Ps → Valss (types_at (slots Ps) κs)
    vals [] h = ws
    vals (P ∷ Ps) h = (h.0.1 ∷ [], vals Ps h.1)

    -- what the others own is what all own
    pub owned : (Ps : List RattleType) (h : Handed Ps)
        → ent 𝓤 (sem logic₀ (owns (types_at more κs) b ws)) (sem logic₀ (owns (types_at (slots Ps) κs) (args Ps h) (vals Ps h)))
    owned [] h = id⊢ 𝓤 (sem logic₀ (owns (types_at more κs) b ws))
    owned (P ∷ Ps) h =
        let rest : SProp 𝓤 = sem logic₀ (owns (types_at (slots Ps) κs) (args Ps h.1) (vals Ps h.1)) in
        via 𝓤 rest (owned Ps h.1) (via 𝓤 (sep 𝓤 (emp 𝓤) rest) (emp∗ 𝓤 rest) (mono_l 𝓤 rest (h.0.2 h.0.0 (h.0.1 ∷ []) h.0.3)))

pub beside : (P : SProp 𝓤) → ent 𝓤 P (sep 𝓤 P (emp 𝓤))
beside P = via 𝓤 (sep 𝓤 (emp 𝓤) P) (emp∗ 𝓤 P) (comm∗ 𝓤 (emp 𝓤) P)

-- ---- a function of values to a value

module _ (Ps : List RattleType) (R : RattleType) where
  abbrev pub values : Signature
  values = record { lifetimes = 0; outlives = []; params = slots [] Ps; result = plain (λ κs. R) }

  module _ (c : Contract values) (ρ : Routine) (h : Handed Ps) where
    abbrev pub bound : Bound logic₀ values
    bound = (tt, tt, tt, args [] tt tt tt Ps h, vals [] tt tt tt Ps h)
