-- A received message is the run of a list of calls, so that the tables reached by messages are reached tables. Assumes nothing.
use Rattle.std.specs.Prelude.{ℕ, ◌≡◌, cond, List, []}
use Rattle.std.proofs.Math.Option.{Option, none, some}
use Rattle.slot.specs.declared.ConnectionManager.{ConnectionManager}
use Rattle.model.specs.Find.{well_formed}
use Rattle.model.specs.Calls.{Call}
use Rattle.model.specs.History.{after, outcomes}
use Rattle.woken_set.specs.WokenSet.{nobody}
use Rattle.hci.specs.declared.HciEvent.{HciEvent}
use Rattle.hci.specs.Read.{event_in}
use Rattle.completed_packets.specs.Format.{Pair}
use Rattle.completed_packets.specs.Read.{completed_in}
use Rattle.att_pdu.specs.Format.{Message}
use Rattle.att_pdu.specs.Read.{message_in}
use Rattle.messages.specs.Received.{Received, woken_by, event_calls, pair_calls, att_calls}

-- the calls that a message runs; none where it is refused with 9 or 8
abbrev pub calls_as : Option HciEvent → Option (List Pair) → List Call
calls_as (some e) ps = event_calls e
calls_as none (some ps) = pair_calls ps
calls_as none none = []

abbrev pub calls_of : List ℕ → ConnectionManager → List Call
calls_of s t = cond (well_formed t) (calls_as (event_in s) (completed_in s)) []

abbrev pub att_calls_as : ℕ → Option Message → List Call
att_calls_as h none = []
att_calls_as h (some m) = att_calls h m

abbrev pub att_calls_of : ℕ → List ℕ → ConnectionManager → List Call
att_calls_of h s t = cond (well_formed t) (att_calls_as h (message_in s)) []

-- the table is that of these calls, and those who are woken are those that they wake
abbrev pub RunOf : List Call → ConnectionManager → Received → Type 0
RunOf cs t r = (r.table ≡ after cs t) × (r.woken ≡ woken_by (outcomes cs t) nobody)
