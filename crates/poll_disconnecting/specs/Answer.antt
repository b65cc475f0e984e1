-- The values of a ticket. Assumes nothing.
use Rattle.std.specs.Prelude.{ℕ, List, [], ◌∷◌}
use Rattle.slot.specs.declared.DisconnectRequest.{DisconnectRequest}
use Rattle.model.specs.Answer.{reason_value}

abbrev pub ticket_values : DisconnectRequest → List ℕ
ticket_values q = q.index ∷ q.handle ∷ reason_value q.reason ∷ q.life ∷ []
