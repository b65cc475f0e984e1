use Rattle.std.proofs.Common.{sym, arith}
use Rattle.model.proofs.Laws.{formed_well}
use Rattle.all_credits.specs.Laws.{next}
use Rattle.all_credits.proofs.set_link_credits_in.Goals as goal

pub offset_bounds-t-i : goal.offset_bounds-t-i
offset_bounds-t-i c = omega (arith, c.loop-i-test.true, (formed_well c.args.t.now (sym c.if-not-is_well_formed.ensures)).most)

pub bounds-t-i : goal.bounds-t-i
bounds-t-i c = omega (arith, c.loop-i-test.true, (formed_well c.args.t.now (sym c.if-not-is_well_formed.ensures)).most)

pub loop-i-preserved : goal.loop-i-preserved
loop-i-preserved c = next _ c.args.t.now _ _ _ c.loop-i.invariant
