-- Demands 1 and 3 of the machine (`prog.Machine`) that runs `table::new` and `calls::run_call`, in any program that has their code:
-- its values, and the histories of calls that it makes. What is shown of these words is in proofs/. Assumes nothing.
use Rattle.std.specs.Prelude.{List, [], ◌∷◌, refl}
use mir.Val.{Val, vunit, vbool, vint, vfloat, vptr, vstruct, vcode, Vals, vnil, vcons}
use prog.Memory.{Memory}
use prog.Routine.{Routine, Env, ends}
use prog.Wired.{Wired}
use denote.Laws.{Is}
use denote.RattleType.{RattleType}
use denote.Param.Laws.{of_field, field_told}
use denote.Param.Shared.{copy_shared}
use denote.Struct.Declared.{Declared}
use denote.Struct.Field.{unit-field}
use denote.Struct.Laws as struct
use denote.Struct.Laws.{Laws, unit-laws, unit-copy}
use denote.Enum.Laws as enum
use Rattle.slot.specs.declared.ConnectionManager.{ConnectionManager}
use Rattle.slot.specs.contracts.ConnectionManager as table
use Rattle.slot.proofs.ConnectionManager.TheLaws as of_table
use Rattle.model.specs.Demand3.{Trace}
use Rattle.table.specs.declared.Outcome.{Outcome}
use Rattle.table.specs.contracts.Outcome as made
use Rattle.table.proofs.Outcome.TheLaws as of_made
use Rattle.table.proofs.new.Symbol as new
use Rattle.calls.specs.declared.Call.{Call}
use Rattle.calls.specs.declared.CallOutcome.{CallOutcome}
use Rattle.calls.specs.contracts.Call as call
use Rattle.calls.proofs.Call.TheLaws as of_call
use Rattle.calls.specs.contracts.CallOutcome as outcome
use Rattle.calls.proofs.CallOutcome.TheLaws as of_outcome
use Rattle.calls.proofs.run_call.Symbol as run_call
use Rattle.isolation.specs.Code.{code_calls}

-- ---- the machine's values

abbrev pub table_value : ConnectionManager → Val
table_value = struct.val table.the_type of_table.the_laws

abbrev pub call_value : Call → Val
call_value = enum.val call.the_type of_call.the_laws

-- `table::new` gives nothing beside the table
abbrev pub made_type : Declared
made_type = made.the_type unit-field.row

abbrev pub made_laws : Laws made_type
made_laws =
    of_made.the_laws unit-field.row
    (of_field unit-field unit-laws refl (copy_shared unit-field unit-copy))
    (field_told unit-field unit-laws)

abbrev pub new_value : Outcome (Unit {0}) → Val
new_value = struct.val made_type made_laws

abbrev pub outcome_value : CallOutcome → Val
outcome_value = struct.val outcome.the_type of_outcome.the_laws

-- a value of its type: its numbers are within their types' bounds, and its arrays have their lengths
abbrev pub TableHeld : ConnectionManager → Type 0
TableHeld t = Is table.the_row t (table_value t ∷ [])

abbrev pub CallHeld : Call → Type 0
CallHeld c = Is call.the_row c (call_value c ∷ [])

abbrev pub CallsHeld : List Call → Type 0
CallsHeld [] = Unit
CallsHeld (c ∷ cs) = CallHeld c × CallsHeld cs

-- the table in the value of an outcome: its last field
abbrev last : Vals → Val
last vnil = vunit
last (vcons v vnil) = v
last (vcons v (vcons w vs)) = last (vcons w vs)

abbrev pub table_of : Val → Val
table_of vunit = vunit
table_of (vbool b) = vunit
table_of (vint w n) = vunit
table_of (vfloat f x) = vunit
table_of (vptr b o) = vunit
table_of (vcode k) = vunit
table_of (vstruct vs) = last vs

-- ---- one call

-- the names of the two functions in a program, and the code that it must have of them: theirs, and that of all that they call
abbrev pub HasCode : Env → Type 0
HasCode γ = Wired γ new.code × Wired γ run_call.code

module _ (γ : Env) where
  -- what the machine does there on a call of `table::new`, and on one of `calls::run_call`
  abbrev pub new_routine : Routine
  new_routine = γ new.name

  abbrev pub call_routine : Routine
  call_routine = γ run_call.name

  -- the calls made one after another from the memory σ, each on the value of the table that the last one returned, in the memory
  -- that it left. vs are the values that they return.
  abbrev pub Made : List Call → Val → Memory → List Val → Type 0
  Made [] u σ [] = Unit
  Made [] u σ (v ∷ vs) = ⊥
  Made (c ∷ cs) u σ [] = ⊥
  Made (c ∷ cs) u σ (v ∷ vs) = (σ' : Memory) × ends call_routine (u ∷ call_value c ∷ []) σ v σ' × Made cs (table_of v) σ' vs

-- ---- demand 3

module _ (start : ConnectionManager) where
  abbrev pub Held : Trace → Type 0
  Held es = CallsHeld (code_calls start es)

  -- a run of a trace's calls from the start, in some memory
  abbrev pub Run : Env → Trace → Type 0
  Run γ es = (vs : List Val) × (σ : Memory) × Made γ (code_calls start es) (table_value start) σ vs
