-- What crates/isolation and crates/host_machine say of every environment with the code, in the program of all libraries: nothing is
-- left that it asks for. Assumes nothing.
use Rattle.std.specs.Prelude.{ℕ, ◌^◌, ◌<◌, ◌≡◌, List, [], ◌∷◌, map}
use mir.Syntax.{w16}
use mir.Val.{Val, vint}
use prog.Memory.{Memory}
use prog.Routine.{Env, ends}
use prog.Linked.{in_world}
use prog.LinkedThreads.{tie_t}
use Rattle.slot.specs.declared.ConnectionManager.{ConnectionManager}
use Rattle.calls.specs.declared.CallOutcome.{CallOutcome}
use Rattle.received.specs.declared.Received.{Received}
use Rattle.received.specs.Answer.{received_of as given_of}
use Rattle.host_event.specs.declared.EventGives.{EventGives}
use Rattle.host_event.specs.Answer.{event_gives_values}
use Rattle.host_att.specs.declared.AttGives.{AttGives}
use Rattle.host_att.specs.Answer.{att_gives_values}
use Rattle.model.specs.History.{new as new_of}
use Rattle.model.specs.Demand3.{of_link, in_turn}
use Rattle.model_theorems.proofs.Shuffled.{start, shuffle, lists, downwards}
use Rattle.messages.specs.Received.{received as received_of, received_att as received_att_of}
use Rattle.isolation.specs.Code.{code_answers, code_table}
use Rattle.isolation.specs.Machine.{Run, TableHeld, table_value, outcome_value}
use Rattle.isolation.proofs.Made.{shuffled}
use Rattle.host_machine.specs.Received.{Bytes, memory_of, slice_of, event_value, att_value}
use Rattle.host_machine.proofs.Received.{received_att_returns, completed, completed_run}
use Rattle.host.proofs.received.Symbol as received
use Rattle.host_att.proofs.received_att.Symbol as received_att
use Rattle.routines.proofs.Program.{program, has_code, has_received, has_received_att}

abbrev pub machine : Env
machine = tie_t (in_world program)

pub shuffled_there : (σ σ' : Memory)
    → ∥ ((m : Run start machine shuffle) × (n : Run start machine (in_turn lists downwards)) × (rs rs' : List CallOutcome)
    × (m.0 ≡ map outcome_value rs) × (n.0 ≡ map outcome_value rs')
    × ((i : ℕ) → of_link i (code_answers shuffle rs) ≡ of_link i (code_answers (in_turn lists downwards) rs'))
    × (code_table rs start ≡ code_table rs' start)) ∥₁
shuffled_there = shuffled machine has_code

pub completed_there : ∥ ((t : ConnectionManager) × (r : Received EventGives) × (σ' : Memory)
    × ends (machine received.name) (table_value t ∷ slice_of completed ∷ []) (memory_of completed) (event_value r) σ'
    × (t ≡ (new_of 1 251 10).table) × (given_of event_gives_values r ≡ received_of completed t)) ∥₁
completed_there = completed_run machine has_code.0 has_received

pub received_att_there : (t : ConnectionManager) → TableHeld t → (handle : ℕ) → handle < 2 ^ 16 → (xs : List ℕ) → Bytes xs
    → ∥ ((r : Received AttGives) × (σ' : Memory)
    × ends (machine received_att.name) (table_value t ∷ vint w16 handle ∷ slice_of xs ∷ []) (memory_of xs) (att_value r) σ'
    × TableHeld r.table × (given_of att_gives_values r ≡ received_att_of handle xs t)) ∥₁
received_att_there = received_att_returns machine has_received_att
