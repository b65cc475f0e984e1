use mathlib.Core.Path.{sym, ◌∙◌}
use borrow.Author.Rules.{rules}
use native.Mathlib.Omega.{arith}
use Rattle.completed_packets.specs.Format.{masked_pairs}
use Rattle.completed_packets.specs.Read.{raw_pairs}
use Rattle.completed_packets.specs.Laws.{length_first, pair_here, fit_bad, fit_next, fit_end}
use Rattle.completed_packets.proofs.handles_fit.Goals as goal

pub returns-then-not-within : goal.returns-then-not-within
returns-then-not-within c =
    let l = c.loop-i in
    let a = c.args in
    let here = pair_here a.s.now a.n l.i _ (omega arith) c.pair_in-pair.ensures in
    sym (l.invariant.1 ∙ fit_bad _ l.i _ _ here c.within.ensures c.if-not-within.true)

pub loop-i-preserved : goal.loop-i-preserved
loop-i-preserved c =
    let l = c.loop-i in
    let a = c.args in
    let here = pair_here a.s.now a.n l.i _ (omega arith) c.pair_in-pair.ensures in
    (search rules, l.invariant.1 ∙ fit_next _ l.i _ _ here c.within.ensures c.if-not-within.false)

pub returns : goal.returns
returns c =
    let a = c.args in
    sym (c.loop-i.invariant.1 ∙ fit_end (masked_pairs (raw_pairs a.s.now a.n 3)) c.loop-i.i (omega (arith, length_first a.s.now a.n)))
