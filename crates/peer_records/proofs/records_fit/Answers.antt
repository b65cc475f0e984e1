use mathlib.Core.Path.{◌≡◌, sym, ap, ◌∙◌}
use native.Mathlib.Omega.{arith}
use borrow.Author.Tests.{not-true, not-false}
use Rattle.peer_records.specs.Below.{all_below, all_none, all_next, all_fails}
use Rattle.peer_records.specs.Format.{record_fits}
use Rattle.std.proofs.lemmas.Bool.{not_from_false, not_from_true}
use Rattle.peer_records.proofs.records_fit.Goals as goal

pub loop-i-init : goal.loop-i-init
loop-i-init c = all_none _

pub returns-then-not-record_fits : goal.returns-then-not-record_fits
returns-then-not-record_fits c =
    let l = c.loop-i in
    let n = c.u16_at-n in
    sym
    (all_fails _ _ l.i (omega (arith, n.ensures))
    (sym (c.record_fits.ensures ∙ ap record_fits c.record_at-r.ensures) ∙ not-true _ (not_from_false _ c.if-not-record_fits.true)))

pub loop-i-preserved : goal.loop-i-preserved
loop-i-preserved c =
    let l = c.loop-i in
    all_next _ l.i l.invariant
    (sym (c.record_fits.ensures ∙ ap record_fits c.record_at-r.ensures) ∙ not-false _ (not_from_true _ c.if-not-record_fits.false))

pub returns : goal.returns
returns c =
    let l = c.loop-i in
    let n = c.u16_at-n in
    let e : l.i ≡ n.result = omega arith in
    sym l.invariant ∙ ap (all_below _) (e ∙ n.ensures)
