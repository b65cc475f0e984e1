use Rattle.std.proofs.Common.{ap, sym, ◌∙◌}
use Rattle.completed_packets.specs.Answer.{completed_reply}
use Rattle.host_event.specs.Answer.{event_gives_values}
use Rattle.host_pairs.specs.Laws.{pairs_run, no_pairs}
use Rattle.host_pairs.proofs.received_pairs.Goals as goal

pub returns-in-None : goal.returns-in-None
returns-in-None c =
    no_pairs c.args.s.now _ (ap completed_reply (sym c.in-None.is) ∙ c.read.ensures) (c.refused.ensures event_gives_values)

pub returns-in-Some : goal.returns-in-Some
returns-in-Some c =
    pairs_run c.args.s.now _ _ (ap completed_reply (sym c.in-Some.is) ∙ c.read.ensures) c.run_pairs.ensures
