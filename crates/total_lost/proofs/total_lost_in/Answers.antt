use Rattle.std.proofs.Common.{sym, arith}
use Rattle.model.proofs.Laws.{formed_well}
use Rattle.total_lost.specs.Laws.{lost_none, lost_next}
use Rattle.total_lost.proofs.total_lost_in.Goals as goal

pub offset_bounds-t-i : goal.offset_bounds-t-i
offset_bounds-t-i c = omega (arith, c.loop-i-test.true, (formed_well c.args.t.now (sym c.if-not-is_well_formed.ensures)).most)

pub bounds-t-i : goal.bounds-t-i
bounds-t-i c = omega (arith, c.loop-i-test.true, (formed_well c.args.t.now (sym c.if-not-is_well_formed.ensures)).most)

pub loop-i-init : goal.loop-i-init
loop-i-init c = lost_none _

pub loop-i-preserved : goal.loop-i-preserved
loop-i-preserved c = lost_next _ _ _ c.loop-i.invariant
