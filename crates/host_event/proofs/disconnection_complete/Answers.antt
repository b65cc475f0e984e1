use Rattle.std.proofs.Common.{true, ap, ◌∙◌, eq-eqb}
use Rattle.model.specs.Link.{disconnected}
use Rattle.messages.proofs.Laws.{lifted, by_status, runs_on_link}
use Rattle.host_event.proofs.disconnection_complete.Goals as goal

pub returns : goal.returns
returns c =
    by_status c.args.d.status _ _ true (eq-eqb _ _ c.if-d-ne0.false)
    (c.one.ensures ∙ ap lifted c.disconnected-o.ensures ∙ runs_on_link (disconnected c.args.d.reason) _ _)
