use mathlib.Core.Path.{sym, ap, ◌∙◌}
use Rattle.completed_packets.specs.Answer.{count_reply}
use Rattle.completed_packets.specs.Laws.{too_many, all_said}
use Rattle.completed_packets.proofs.read.Goals as goal

pub returns-then-not-within : goal.returns-then-not-within
returns-then-not-within c = sym (ap count_reply (too_many c.args.s.now (sym c.within.ensures ∙ c.if-not-within.true)))

pub returns : goal.returns
returns c =
    let s = c.args.s.now in
    sym (all_said s (sym c.is_completed.ensures ∙ c.if-not-is_completed.false) (sym c.within.ensures ∙ c.if-not-within.false) (sym c.handles_fit.ensures ∙ c.if-not-handles_fit.false))
