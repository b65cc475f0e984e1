use mathlib.Core.Path.{sym, ◌∙◌}
use native.Mathlib.Omega.{arith}
use Rattle.woken_set.specs.WokenSet.{join_next, join_end}
use Rattle.woken_set.proofs.WokenSet.join.Goals as goal

pub loop-i-preserved : goal.loop-i-preserved
loop-i-preserved c =
    let l = c.loop-i in
    l.invariant ∙ join_next c.args.more l.set c.add_at-set.result l.i (omega arith) c.add_at-set.ensures

pub returns : goal.returns
returns c =
    let l = c.loop-i in
    sym (l.invariant ∙ join_end c.args.more l.set l.i (omega arith))
