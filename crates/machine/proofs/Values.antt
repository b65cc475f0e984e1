-- What `Returns` says of a function of values to a value, with nothing left of the logic: from every memory its routine ends, with
-- the value of a result of which the contract's fact holds. Assumes nothing.
use Rattle.std.specs.Prelude.{List, [], ◌∷◌}
use Rattle.std.proofs.Math.Logic.{∥∥₁_prop, ∥∥₁_elim, ∥∥₁_map}
use seplogic.Bi.Sat
use base.Logic.{SProp, ent, sep, emp, via, mono_r, emp∗}
use mir.Val.{Val}
use prog.Memory.{Memory}
use prog.Routine.{Routine, ends}
use ghost.Model.{𝓤}
use types.Logic.{sem}
use contract.BorrowModel.{logic₀}
use contract.Closed.{model⁺, any_memory⁺}
use contract.Monad.{fact}
use contract.Adequate.{Satisfies}
use denote.RattleType.{RattleType, owns}
use denote.Laws.{Is, Tells}
use denote.Signature.{types_at}
use denote.Triple.Bound.{Bound, passed}
use Rattle.machine.specs.Returns.{Contract, clauses, Before, Returns}
use Rattle.machine.specs.Values.{read, returned_value, Handed, slots, args, vals, owned, beside, values, bound as bound_of}

module _ (Ps : List RattleType) (R : RattleType) (c : Contract (values Ps R)) (ρ : Routine) (h : Handed Ps) where
  abbrev bound : Bound logic₀ (values Ps R)
  bound = bound_of Ps R c ρ h

  -- a value owns nothing, so the arguments are in every memory
  pub present : (σ : Memory) → Before (values Ps R) c bound σ (emp 𝓤)
  unfolding Satisfies
  present σ =
      let none : SProp 𝓤 = emp 𝓤 in
      let mem : SProp 𝓤 = model⁺.mem σ in
      let all : SProp 𝓤 = sem logic₀ (owns (types_at (slots [] Ps) tt) (args [] tt tt tt Ps h) (vals [] tt tt tt Ps h)) in
      Sat.mono 𝓤.op
      (via 𝓤 (sep 𝓤 mem none) (beside mem)
      (mono_r 𝓤 mem (via 𝓤 all (owned [] tt tt tt Ps h) (via 𝓤 (sep 𝓤 none all) (emp∗ 𝓤 all) (beside (sep 𝓤 none all))))))
      (any_memory⁺ σ)

  pub on_values : Returns (values Ps R) c ρ → (value : R.Denot → Val) → Tells R (Is R) (λ r. value r ∷ [])
      → (φ : R.Denot → Type 0) → ((g : (clauses (values Ps R) c tt bound.3).ghost) (r : R.Denot) → ent 𝓤 ((clauses (values Ps R) c tt bound.3).ensures g r) (fact 𝓤 (φ r)))
      → (σ : Memory) → ∥ ((r : R.Denot) × (σ' : Memory) × ends ρ (passed logic₀ (values Ps R) bound) σ (value r) σ' × Is R r (value r ∷ []) × φ r) ∥₁
  on_values returned value tells φ says σ =
      ∥∥₁_elim (returned.on_every bound σ (emp 𝓤) (present σ)) ∥∥₁_prop (λ t.
      ∥∥₁_map (read (values Ps R) c bound φ says t.1 t.2 (emp 𝓤) t.4)
      (returned_value R value tells ρ (passed logic₀ (values Ps R) bound) σ φ t.1 t.2 (t.0, t.3)))
