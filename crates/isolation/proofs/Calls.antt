-- What the machine does on one call of `table::new` and of `calls::run_call`, in any program that has their code: it returns, from
-- whatever memory, and as their contracts say. Assumes nothing.
use Rattle.std.specs.Prelude.{ℕ, ◌<◌, ◌^◌, ◌≡◌, refl, [], ◌∷◌}
use Rattle.std.proofs.Math.Logic.{∥∥₁_map}
use base.Logic.{SProp, sep, id⊢, via}
use mir.Syntax.{w8, w32}
use mir.Val.{vint}
use prog.Memory.{Memory}
use prog.Routine.{Env, ends}
use prog.Wired.{Wired}
use ghost.Model.{𝓤}
use contract.Monad.{fact, conj, sep→conj}
use contract.BorrowModel.{logic₀}
use denote.Builtin.{u8, u32}
use denote.Laws.{both_say}
use denote.Plain.{uint_Makes}
use denote.Struct.Field.{unit-field}
use denote.Struct.Laws as struct
use denote.Enum.Laws as enum
use Rattle.slot.specs.declared.ConnectionManager.{ConnectionManager}
use Rattle.slot.specs.contracts.ConnectionManager as table
use Rattle.slot.proofs.ConnectionManager.TheLaws as of_table
use Rattle.model.specs.History.{new as new_of}
use Rattle.model.specs.Answer.{no_value}
use Rattle.table.specs.declared.Outcome.{Outcome}
use Rattle.table.specs.Answer.{outcome_of}
use Rattle.table.specs.contracts.Outcome as made
use Rattle.table.specs.contracts.new as new
use Rattle.table.proofs.new.Symbol as of_new
use Rattle.table.proofs.new.Met as met_new
use Rattle.calls.specs.declared.Call.{Call}
use Rattle.calls.specs.declared.CallOutcome.{CallOutcome}
use Rattle.calls.specs.Answer.{call_kind, answer_kind}
use Rattle.calls.specs.contracts.Call as call
use Rattle.calls.proofs.Call.TheLaws as of_call
use Rattle.calls.specs.contracts.CallOutcome as outcome
use Rattle.calls.proofs.CallOutcome.TheLaws as of_outcome
use Rattle.calls.specs.contracts.run_call as run_call
use Rattle.calls.proofs.run_call.Symbol as of_run_call
use Rattle.calls.proofs.run_call.Met as met_run_call
use Rattle.machine.specs.Returns.{returns}
use Rattle.machine.specs.Values.{stated}
use Rattle.machine.proofs.Values.{on_values}
use Rattle.isolation.specs.Code.{Ran}
use Rattle.isolation.specs.Machine.{new_routine, call_routine, table_value, call_value, made_type, made_laws, new_value, outcome_value, TableHeld, CallHeld}

module _ (γ : Env) (code : Wired γ of_new.code) where
  -- `new`, on every argument and from every memory
  pub new_returns : (slots mtu packets : ℕ) → slots < 2 ^ 8 → mtu < 2 ^ 32 → packets < 2 ^ 32 → (σ : Memory)
      → ∥ ((r : Outcome (Unit {0})) × (σ' : Memory) × ends (new_routine γ) (vint w8 slots ∷ vint w32 mtu ∷ vint w32 packets ∷ []) σ (new_value r) σ'
      × TableHeld r.table × (outcome_of no_value r ≡ new_of slots mtu packets)) ∥₁
  new_returns slots mtu packets s m p σ =
      ∥∥₁_map
      (on_values (u8 ∷ u32 ∷ u32 ∷ []) (made.the_row unit-field.row) (λ 𝓤. new.spec) (new_routine γ)
      ((slots, vint w8 slots, uint_Makes logic₀ w8, (refl, s)), ((mtu, vint w32 mtu, uint_Makes logic₀ w32, (refl, m)), ((packets, vint w32 packets, uint_Makes logic₀ w32, (refl, p)), tt)))
      (returns of_new.code (λ κs a. (tt, refl)) met_new.met γ code)
      new_value (struct.tells made_type made_laws) (λ r. outcome_of no_value r ≡ new_of slots mtu packets)
      (λ g r.
      let is : SProp 𝓤 = fact 𝓤 (outcome_of no_value r ≡ new_of slots mtu packets) in
      stated new.signature (new.ended).kept tt (slots, (mtu, (packets, tt))) (λ e. is) (outcome_of no_value r ≡ new_of slots mtu packets) (λ e. id⊢ 𝓤 is))
      σ)
      (λ q. (q.0, q.1, q.2, (struct.owed made_type made_laws q.0 (new_value q.0 ∷ []) q.3).1.1.0, q.4))

module _ (γ : Env) (code : Wired γ of_run_call.code) where
  -- any other call; both clauses of the contract
  pub run_call_returns : (t : ConnectionManager) (c : Call) → TableHeld t → CallHeld c → (σ : Memory)
      → ∥ ((r : CallOutcome) × (σ' : Memory) × ends (call_routine γ) (table_value t ∷ call_value c ∷ []) σ (outcome_value r) σ'
      × TableHeld r.table × Ran t c r × (answer_kind r.answer ≡ call_kind c)) ∥₁
  run_call_returns t c ht hc σ =
      ∥∥₁_map
      (on_values (table.the_row ∷ call.the_row ∷ []) outcome.the_row (λ 𝓤. run_call.spec) (call_routine γ)
      ((t, table_value t, struct.makes table.the_type of_table.the_plain logic₀, ht), ((c, call_value c, enum.makes call.the_type of_call.the_plain logic₀, hc), tt))
      (returns of_run_call.code (λ κs a. (tt, refl)) met_run_call.met γ code)
      outcome_value (struct.tells outcome.the_type of_outcome.the_laws) (λ r. Ran t c r × (answer_kind r.answer ≡ call_kind c))
      (λ g r.
      let Kind : Type 0 = answer_kind r.answer ≡ call_kind c in
      let ran : SProp 𝓤 = fact 𝓤 (Ran t c r) in
      let kind : SProp 𝓤 = fact 𝓤 Kind in
      stated run_call.signature (run_call.ended).kept tt (t, (c, tt)) (λ e. sep 𝓤 ran kind) (Ran t c r × Kind)
      (λ e. via 𝓤 (conj 𝓤 ran kind) (sep→conj 𝓤 ran kind) (both_say logic₀ (Ran t c r) Kind (id⊢ 𝓤 ran) (id⊢ 𝓤 kind))))
      σ)
      (λ p. (p.0, p.1, p.2, (struct.owed outcome.the_type of_outcome.the_laws p.0 (outcome_value p.0 ∷ []) p.3).1.1.0, p.4.0, p.4.1))
