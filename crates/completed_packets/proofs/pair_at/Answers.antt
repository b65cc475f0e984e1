use mathlib.Core.Path.{sym, ap, ◌∙◌}
use Rattle.completed_packets.specs.Answer.{completed_reply}
use Rattle.completed_packets.specs.Laws.{pair_some}
use Rattle.completed_packets.proofs.pair_at.Goals as goal

pub returns-then-i-n : goal.returns-then-i-n
returns-then-i-n c =
    let a = c.args in
    pair_some a.s.now _ a.i c.pair_in.result (ap completed_reply (sym c.in-Some.is) ∙ c.read.ensures) c.if-i-n.true c.pair_in.ensures
