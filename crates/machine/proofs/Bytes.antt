-- What `Returns` says of a function of values and a lent slice of bytes to a value: from the memory in which the bytes are, whatever
-- they are, its routine ends, with the value of a result of which the contract's fact holds. Assumes nothing.
use Rattle.std.specs.Prelude.{ℕ, List, [], ◌∷◌, length}
use Rattle.std.proofs.Math.Logic.{∥∥₁_prop, ∥∥₁_elim, ∥∥₁_map}
use base.Fraction.{full_share}
use base.Logic.{SProp, ent, sep, emp, via, mono∗}
use types.Logic.{sem}
use mir.Syntax.{w8}
use mir.Val.{Val}
use prog.Memory.{Memory}
use prog.Model.{AllFit}
use prog.AdequacyRun.{start_mem}
use prog.Routine.{Routine, ends}
use ghost.Model.{𝓤, H, A}
use contract.BorrowModel.{logic₀}
use contract.Closed.{model⁺}
use contract.Monad.{fact}
use contract.Adequate.{Satisfies, sat_weaken}
use denote.RattleType.{RattleType, owns}
use denote.Builtin.{u8}
use denote.Laws.{Is, Tells}
use denote.Slice.{Room, slice_val}
use denote.Signature.{types_at}
use denote.Triple.Bound.{Bound, passed}
use Rattle.machine.specs.Returns.{Contract, clauses, Before, Returns}
use Rattle.machine.specs.Values.{read, returned_value, Handed, slots, owned, beside}
use Rattle.machine.specs.Bytes.{bytes, values_and_bytes, slice, lent, bound as bound_of}

module _ (Ps : List RattleType) (R : RattleType) (c : Contract (values_and_bytes Ps R)) (ρ : Routine) (h : Handed Ps) (xs : List ℕ) where
  abbrev bound : ℕ → Bound logic₀ (values_and_bytes Ps R)
  bound α = bound_of Ps R c ρ h xs α

  -- where the bytes are lent, the arguments are there
  pub present : (α : ℕ) (σ : Memory) → Satisfies 𝓤 H model⁺ σ (sep 𝓤 (A.lft (α ∷ []) full_share) (slice α xs)) → Before (values_and_bytes Ps R) c (bound α) σ (emp 𝓤)
  present α σ s =
      let life : SProp 𝓤 = A.lft (α ∷ []) full_share in
      let all : SProp 𝓤 = sem logic₀ (owns (types_at (slots (bytes Ps R) Ps) (bound α).0) (bound α).3 (bound α).4) in
      sat_weaken 𝓤 H model⁺ σ
      (via 𝓤 (sep 𝓤 (sep 𝓤 life (emp 𝓤)) all)
      (mono∗ 𝓤 (beside life) (via 𝓤 (sep 𝓤 (slice α xs) (emp 𝓤)) (beside (slice α xs)) (owned (bytes Ps R) (bound α).0 (record { ref_ptr = (0, 0); now = xs }, tt) (slice_val (0, 0) (length xs) ∷ [], tt) Ps h)))
      (beside (sep 𝓤 (sep 𝓤 life (emp 𝓤)) all)))
      s

  pub on_bytes : Returns (values_and_bytes Ps R) c ρ → (value : R.Denot → Val) → Tells R (Is R) (λ r. value r ∷ [])
      → (φ : R.Denot → Type 0)
      → ((α : ℕ) (g : (clauses (values_and_bytes Ps R) c (bound α).0 (bound α).3).ghost) (r : R.Denot) → ent 𝓤 ((clauses (values_and_bytes Ps R) c (bound α).0 (bound α).3).ensures g r) (fact 𝓤 (φ r)))
      → AllFit w8 xs → Room u8 (length xs)
      → ∥ ((α : ℕ) × (r : R.Denot) × (σ' : Memory) × ends ρ (passed logic₀ (values_and_bytes Ps R) (bound α)) (start_mem xs []) (value r) σ' × Is R r (value r ∷ []) × φ r) ∥₁
  on_bytes returned value tells φ says fits room =
      ∥∥₁_elim (lent xs fits room) ∥∥₁_prop (λ l.
      let x : Bound logic₀ (values_and_bytes Ps R) = bound l.0 in
      ∥∥₁_elim (returned.on_every x (start_mem xs []) (emp 𝓤) (present l.0 (start_mem xs []) l.1)) ∥∥₁_prop (λ t.
      ∥∥₁_map (read (values_and_bytes Ps R) c x φ (says l.0) t.1 t.2 (emp 𝓤) t.4)
      (λ p.
      let q = returned_value R value tells ρ (passed logic₀ (values_and_bytes Ps R) x) (start_mem xs []) φ t.1 t.2 (t.0, t.3) p in
      (l.0, q.0, q.1, q.2, q.3, q.4))))
