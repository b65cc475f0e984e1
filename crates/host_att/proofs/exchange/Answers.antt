use Rattle.std.proofs.Common.{ap, ◌∙◌}
use Rattle.model.specs.Link.{negotiate_att_mtu}
use Rattle.messages.proofs.Laws.{lifted, runs_on_link}
use Rattle.host_att.proofs.exchange.Goals as goal

pub returns : goal.returns
returns c = c.one.ensures ∙ ap lifted c.negotiate_att_mtu-o.ensures ∙ runs_on_link (negotiate_att_mtu c.args.mtu) _ _
