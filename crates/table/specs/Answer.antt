-- What an answer of the code stands for, where what it gives has these values. Assumes nothing.
use Rattle.std.specs.Prelude.{ℕ, List}
use Rattle.slot.specs.declared.ConnectionManager.{ConnectionManager}
use Rattle.model.specs.Answer.{Outcome as ModelOutcome, reply_of}
use Rattle.table.specs.declared.Outcome.{Outcome}
use Rattle.table.specs.declared.Look.{Look}

abbrev pub outcome_of : {A : Type 0} → (A → List ℕ) → Outcome A → ModelOutcome
outcome_of values r = record { reply = reply_of values r.answer; woken = r.woken; table = r.table }

-- a call that only looks leaves the table as it was
abbrev pub look_of : {A : Type 0} → (A → List ℕ) → Look A → ConnectionManager → ModelOutcome
look_of values r t = record { reply = reply_of values r.answer; woken = r.woken; table = t }
