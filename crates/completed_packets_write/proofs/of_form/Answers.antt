use mathlib.Core.Path.{sym, ap, ◌∙◌}
use native.Mathlib.Omega.{arith}
use Rattle.limits.specs.declared.Field.TheVariants as field
use Rattle.limits.specs.Limits.{within}
use Rattle.completed_packets.specs.Laws.{fit_bad, fit_next, fit_end}
use Rattle.completed_packets_write.specs.Laws.{form_unfit, form_fit}
use Rattle.completed_packets_write.proofs.of_form.Goals as goal

pub returns-then-not-within-2 : goal.returns-then-not-within-2
returns-then-not-within-2 g c =
    let ps = g.P.PairList.pairs c.args.pairs.now in
    sym (form_unfit ps (c.loop-i.invariant ∙ fit_bad ps c.loop-i.i _ _ c.at.ensures c.within-in-loop-i.ensures c.if-not-within-2.true))

pub loop-i-preserved : goal.loop-i-preserved
loop-i-preserved g c =
    let ps = g.P.PairList.pairs c.args.pairs.now in
    c.loop-i.invariant ∙ fit_next ps c.loop-i.i _ _ c.at.ensures c.within-in-loop-i.ensures c.if-not-within-2.false

pub returns : goal.returns
returns g c =
    let ps = g.P.PairList.pairs c.args.pairs.now in
    let few = ap (within field.Pairs) (sym c.count-n.ensures) ∙ sym c.within.ensures ∙ c.if-not-within.false in
    sym (form_fit ps few (c.loop-i.invariant ∙ fit_end ps c.loop-i.i (omega arith)))
