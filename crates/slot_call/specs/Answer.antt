-- What an answer of the code stands for, where what it gives has these values. Assumes nothing.
use Rattle.std.specs.Prelude.{ℕ, List, []}
use Rattle.model.specs.Answer.{Local as ModelLocal, reply_of}
use Rattle.model.specs.Link.{stale}
use Rattle.slot_call.specs.declared.Ended.{Ended}
use Rattle.slot_call.specs.declared.Ended.TheVariants as ended
use Rattle.slot_call.specs.declared.Local.{Local}

abbrev pub local_of : {A : Type 0} → (A → List ℕ) → Local A → ModelLocal
local_of values l = record { reply = reply_of values l.answer; woken = l.woken; slot = l.slot; share = l.share }

-- the end of a lock, a grant or a ticket: an end that is not stale has no value
abbrev pub ended_values : Ended → List ℕ
ended_values ended.Stale = stale
ended_values ended.Done = []
