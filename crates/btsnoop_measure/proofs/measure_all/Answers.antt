use Rattle.std.proofs.Common.{zero-add, arith}
use Rattle.std.proofs.Math.Path.{refl}
use Rattle.btsnoop_read.specs.Read.{records_in}
use Rattle.btsnoop_read.specs.Laws.{found_head, no_head}
use Rattle.btsnoop_measure.specs.Laws.{counts_next, counted_cut, counted_all}
use Rattle.btsnoop_measure.proofs.measure_all.Goals as goal

pub loop-head-init : goal.loop-head-init
loop-head-init c = (omega arith, omega arith, omega arith, record { records = zero-add _; bytes = zero-add _; whole = refl })

pub loop-head-smaller : goal.loop-head-smaller
loop-head-smaller c =
    let f = found_head c.args.s.now c.loop-head.at _ c.record_at.ensures c.in-Some.is in
    omega (arith, f.within)

pub loop-head-preserved : goal.loop-head-preserved
loop-head-preserved c =
    let l = c.loop-head in
    let f = found_head c.args.s.now l.at _ c.record_at.ensures c.in-Some.is in
    (omega (arith, f.within), omega arith, omega arith, counts_next c.args.s.now l.m l.at (records_in c.args.s.now) l.invariant.3 f (omega arith))

pub returns-then-at-s : goal.returns-then-at-s
returns-then-at-s c =
    let l = c.loop-head in
    counted_cut c.args.s.now l.m l.at (records_in c.args.s.now) l.invariant.3 (omega arith) (no_head c.args.s.now l.at c.record_at.ensures c.in_default.is)

pub returns : goal.returns
returns c =
    let l = c.loop-head in
    counted_all c.args.s.now l.m l.at (records_in c.args.s.now) l.invariant.3 (omega arith)
