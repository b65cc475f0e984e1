use Rattle.std.proofs.Common.{sym, ◌∙◌}
use native.Mathlib.Omega.{arith}
use Rattle.completed_packets_write.specs.Laws.{form_few, no_room, all_written}
use Rattle.completed_packets_write.proofs.write_pairs.Goals as goal

pub overflow_mul-parameters : goal.overflow_mul-parameters
overflow_mul-parameters g c = omega (arith, c.count-n.ensures, form_few (g.P.PairList.pairs c.args.pairs.now) (sym c.of_form.ensures ∙ c.if-not-of_form.false))

pub overflow_add-parameters : goal.overflow_add-parameters
overflow_add-parameters g c = omega (arith, c.count-n.ensures, form_few (g.P.PairList.pairs c.args.pairs.now) (sym c.of_form.ensures ∙ c.if-not-of_form.false))

pub overflow_add-size : goal.overflow_add-size
overflow_add-size g c = omega (arith, c.count-n.ensures, form_few (g.P.PairList.pairs c.args.pairs.now) (sym c.of_form.ensures ∙ c.if-not-of_form.false))

pub returns-then-out-size : goal.returns-then-out-size
returns-then-out-size g c =
    let r = no_room (g.P.PairList.pairs c.args.pairs.now) c.args.out.now (sym c.of_form.ensures ∙ c.if-not-of_form.false) (omega (arith, c.count-n.ensures, c.if-out-size.true)) in
    record { reply = r.0; bytes = r.1 }

pub overflow_cast-out : goal.overflow_cast-out
overflow_cast-out g c = omega (arith, c.count-n.ensures, form_few (g.P.PairList.pairs c.args.pairs.now) (sym c.of_form.ensures ∙ c.if-not-of_form.false))

pub overflow_cast-out-2 : goal.overflow_cast-out-2
overflow_cast-out-2 g c = omega (arith, c.count-n.ensures, form_few (g.P.PairList.pairs c.args.pairs.now) (sym c.of_form.ensures ∙ c.if-not-of_form.false))

pub returns : goal.returns
returns g c =
    let r = all_written (g.P.PairList.pairs c.args.pairs.now) c.args.out.now _ c.count-n.result c.count-n.ensures (sym c.of_form.ensures ∙ c.if-not-of_form.false) c.if-out-size.false c.put_pairs.ensures in
    record { reply = r.0; bytes = r.1 }
