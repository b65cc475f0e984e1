-- What the answer of `read` says. Assumes nothing.
use Rattle.std.specs.Prelude.{Option as Found, None, Some}
use Rattle.std.proofs.Math.Option.{Option, none, some}
use Rattle.model.specs.Answer.{Refusal, Reply, ok, refusal}
use Rattle.hci.specs.declared.HciEvent.{HciEvent}
use Rattle.hci.specs.Read.{event_values}

abbrev pub event_of : Found HciEvent → Option HciEvent
event_of None = none
event_of (Some e) = some e

abbrev pub read_reply : Found HciEvent → Reply
read_reply None = refusal Refusal.Packet
read_reply (Some e) = ok (event_values e)
