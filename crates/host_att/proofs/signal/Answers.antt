use Rattle.std.proofs.Common.{ap, ◌∙◌}
use Rattle.model.specs.Link.{signal_indication_confirmation}
use Rattle.messages.proofs.Laws.{lifted, runs_on_link}
use Rattle.host_att.proofs.signal.Goals as goal

pub returns : goal.returns
returns c =
    c.one.ensures ∙ ap lifted c.signal_indication_confirmation-o.ensures ∙ runs_on_link signal_indication_confirmation _ _
