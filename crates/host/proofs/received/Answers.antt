use mathlib.Core.Path.{ap, sym, ◌∙◌}
use Rattle.hci_read.specs.Answer.{event_of}
use Rattle.messages.proofs.Laws.{event_read, no_event_read}
use Rattle.host.proofs.received.Goals as goal

pub returns-in-None : goal.returns-in-None
returns-in-None c =
    let a = c.args in
    no_event_read a.s.now a.t (ap event_of (sym c.in-None.is) ∙ c.read.ensures.event) c.received_pairs.ensures

pub returns-in-Some : goal.returns-in-Some
returns-in-Some c =
    let a = c.args in
    event_read a.s.now _ a.t (ap event_of (sym c.in-Some.is) ∙ c.read.ensures.event) c.received_event.ensures
