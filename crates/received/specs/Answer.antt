-- What an answer of the code stands for, where what it gives has these values. Assumes nothing.
use Rattle.std.specs.Prelude.{ℕ, List}
use Rattle.model.specs.Answer.{reply_of}
use Rattle.messages.specs.Received.{Received as ModelReceived}
use Rattle.received.specs.declared.Received.{Received}

abbrev pub received_of : {A : Type 0} → (A → List ℕ) → Received A → ModelReceived
received_of values r = record { reply = reply_of values r.answer; woken = r.woken; table = r.table }
