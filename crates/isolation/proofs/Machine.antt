-- Demands 1 and 3 of the machine that runs `table::new` and `calls::run_call`, in any program that has their code: no history of
-- calls traps or hangs, from whatever memory, and the values that its calls return are of outcomes that specs/Code.antt speaks of.
-- Assumes nothing.
use Rattle.std.specs.Prelude.{ℕ, ◌<◌, ◌^◌, ◌≡◌, refl, List, [], ◌∷◌, map}
use Rattle.std.proofs.Common.{ap, ◌∙◌, subst}
use Rattle.std.proofs.Math.Logic.{∥∥₁_prop, ∥∥₁_elim, ∥∥₁_map}
use mir.Syntax.{w8, w32}
use mir.Val.{Val, vint}
use prog.Memory.{Memory}
use prog.Routine.{Env, ends, ends-one}
use Rattle.slot.specs.declared.ConnectionManager.{ConnectionManager}
use Rattle.model.specs.History.{new as new_of, Reached}
use Rattle.model.specs.Demand3.{OwnHandles, Trace, of_link, Lists, OnLinks, alone, Shuffle, in_turn, Order}
use Rattle.model.specs.Answer.{no_value}
use Rattle.table.specs.declared.Outcome.{Outcome}
use Rattle.table.specs.Answer.{outcome_of}
use Rattle.calls.specs.declared.Call.{Call}
use Rattle.calls.specs.declared.CallOutcome.{CallOutcome}
use Rattle.isolation.specs.Code.{Ensured, code_calls, code_answers, code_table}
use Rattle.isolation.specs.Machine.{HasCode, new_routine, call_routine, table_value, call_value, new_value, outcome_value, TableHeld, CallsHeld, table_of, Made, Held, Run}
use Rattle.isolation.proofs.Outcomes.{code_demand3}
use Rattle.isolation.proofs.Calls.{new_returns, run_call_returns}

module _ (γ : Env) (code : HasCode γ) where
  -- no history traps or hangs: each call returns, and as its contract says; and the last table is one of its type
  pub history_returns : (cs : List Call) (t : ConnectionManager) → TableHeld t → CallsHeld cs → (σ : Memory)
      → ∥ ((rs : List CallOutcome) × Made γ cs (table_value t) σ (map outcome_value rs) × Ensured cs t rs × TableHeld (code_table rs t)) ∥₁
  history_returns [] t ht hcs σ = ∣ ([], tt, tt, ht) ∣₁
  history_returns (c ∷ cs) t ht hcs σ =
      ∥∥₁_elim (run_call_returns γ code.1 t c ht hcs.0 σ) ∥∥₁_prop (λ p.
      ∥∥₁_map (history_returns cs p.0.table p.3 hcs.1 p.1) (λ q. (p.0 ∷ q.0, (p.1, p.2, q.1), (p.4, q.2), q.3)))

  -- nor does one from a fresh table
  pub from_new : (slots mtu packets : ℕ) → slots < 2 ^ 8 → mtu < 2 ^ 32 → packets < 2 ^ 32 → (cs : List Call) → CallsHeld cs → (σ : Memory)
      → ∥ ((r : Outcome (Unit {0})) × (σ' : Memory) × (rs : List CallOutcome)
      × ends (new_routine γ) (vint w8 slots ∷ vint w32 mtu ∷ vint w32 packets ∷ []) σ (new_value r) σ' × (outcome_of no_value r ≡ new_of slots mtu packets)
      × Made γ cs (table_of (new_value r)) σ' (map outcome_value rs) × Ensured cs r.table rs × TableHeld (code_table rs r.table)) ∥₁
  from_new slots mtu packets s m k cs hcs σ =
      ∥∥₁_elim (new_returns γ code.0 slots mtu packets s m k σ) ∥∥₁_prop (λ p.
      ∥∥₁_map (history_returns cs p.0.table p.3 hcs p.1) (λ q. (p.0, p.1, q.0, p.2, p.4, q.1, q.2, q.3)))

  -- the machine makes a history in one way
  made_one : (cs : List Call) (u : Val) (σ : Memory) (vs ws : List Val) → Made γ cs u σ vs → Made γ cs u σ ws → vs ≡ ws
  made_one [] u σ [] [] m n = refl
  made_one [] u σ [] (w ∷ ws) m n = absurd n
  made_one [] u σ (v ∷ vs) ws m n = absurd m
  made_one (c ∷ cs) u σ [] ws m n = absurd m
  made_one (c ∷ cs) u σ (v ∷ vs) [] m n = absurd n
  made_one (c ∷ cs) u σ (v ∷ vs) (w ∷ ws) m n =
      let same : ◌≡◌ {A = Val × Memory} (v, m.0) (w, n.0) = ends-one (call_routine γ) (u ∷ call_value c ∷ []) σ (v, m.0) (w, n.0) m.1 n.1 in
      ap (λ (x : Val × Memory). x.0 ∷ vs) same
      ∙ ap (λ (us : List Val). w ∷ us) (made_one cs (table_of w) n.0 vs ws (subst (λ (x : Val × Memory). Made γ cs (table_of x.0) x.1 vs) same m.2) n.2)

  -- so whatever values a history returns, they are those of outcomes that the contract ensures
  pub history_ensured : (cs : List Call) (t : ConnectionManager) → TableHeld t → CallsHeld cs → (σ : Memory) (vs : List Val) → Made γ cs (table_value t) σ vs
      → ∥ ((rs : List CallOutcome) × (vs ≡ map outcome_value rs) × Ensured cs t rs) ∥₁
  history_ensured cs t ht hcs σ vs m =
      ∥∥₁_map (history_returns cs t ht hcs σ) (λ p. (p.0, made_one cs (table_value t) σ vs (map outcome_value p.0) m p.1, p.2))

  -- ---- demand 3

  module _ (start : ConnectionManager) where
    -- what the calls of a shuffle return is of outcomes with the answers that each list's calls return when it runs alone, in
    -- whatever memory; and with the answers and the table of whole lists one after another
    pub machine_demand3 : TableHeld start → Reached start → OwnHandles start
        → (lists : Lists) → OnLinks start lists
        → (trace : Trace) → Shuffle lists trace → Held start trace → (m : Run start γ trace)
        → ((i : ℕ) → Held start (alone lists i) → (n : Run start γ (alone lists i))
        → ∥ ((rs rs' : List CallOutcome) × (m.0 ≡ map outcome_value rs) × (n.0 ≡ map outcome_value rs')
        × (of_link i (code_answers trace rs) ≡ of_link i (code_answers (alone lists i) rs'))) ∥₁)
        × ((order : List ℕ) → Order lists order → Held start (in_turn lists order) → (n : Run start γ (in_turn lists order))
        → ∥ ((rs rs' : List CallOutcome) × (m.0 ≡ map outcome_value rs) × (n.0 ≡ map outcome_value rs')
        × ((i : ℕ) → of_link i (code_answers trace rs) ≡ of_link i (code_answers (in_turn lists order) rs'))
        × (code_table rs start ≡ code_table rs' start)) ∥₁)
    machine_demand3 ht reached own lists on trace s held m =
        let ensured : (es : Trace) → Held start es → (n : Run start γ es) → ∥ ((rs : List CallOutcome) × (n.0 ≡ map outcome_value rs) × Ensured (code_calls start es) start rs) ∥₁ =
        λ es h n. history_ensured (code_calls start es) start ht h n.1 n.0 n.2 in (
          λ i h n.
              ∥∥₁_elim (ensured trace held m) ∥∥₁_prop (λ p.
              ∥∥₁_map (ensured (alone lists i) h n) (λ q.
              (p.0, q.0, p.1, q.1, (code_demand3 start reached own lists on trace s p.0 p.2).0 i q.0 q.2))),
          λ order o h n.
              ∥∥₁_elim (ensured trace held m) ∥∥₁_prop (λ p.
              ∥∥₁_map (ensured (in_turn lists order) h n) (λ q.
              let d = (code_demand3 start reached own lists on trace s p.0 p.2).1 order o q.0 q.2 in
              (p.0, q.0, p.1, q.1, d.0, d.1))),
        )
