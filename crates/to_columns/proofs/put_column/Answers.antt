use Rattle.std.proofs.Common.{◌+◌, ◌≤◌, length, sym, ap, ◌∙◌, arith, rules}
use lib.Seq.{sets, length-sets}
use Rattle.btsnoop_read.specs.Laws.{found_head, no_head}
use Rattle.to_columns.specs.Put.{cells_length, cells_put, cells_end}
use Rattle.to_columns.proofs.put_column.Goals as goal

pub overflow_add-start : goal.overflow_add-start
overflow_add-start c = let f = found_head c.args.s.now c.loop-head.i c.in-Some.head c.record_at.ensures c.in-Some.is in omega (arith, f.within)

pub overflow_add-end : goal.overflow_add-end
overflow_add-end c = let f = found_head c.args.s.now c.loop-head.i c.in-Some.head c.record_at.ensures c.in-Some.is in omega (arith, f.within)

pub slice_bounds-put_cell-end : goal.slice_bounds-put_cell-end
slice_bounds-put_cell-end c =
    let h = c.in-Some.head in
    let f = found_head c.args.s.now c.loop-head.i h c.record_at.ensures c.in-Some.is in
    let k : c.loop-head.i + 24 + h.included ≤ length c.args.s.now = f.within in
    search rules

pub put_cell-to-requires : goal.put_cell-to-requires
put_cell-to-requires c =
    let l = c.loop-head in
    let h = c.in-Some.head in
    let f = found_head c.args.s.now l.i h c.record_at.ensures c.in-Some.is in
    omega (arith, c.requires, l.invariant.0, l.invariant.1, cells_length c.args.s.now l.i h f c.args.cell l.before)

pub loop-head-smaller : goal.loop-head-smaller
loop-head-smaller c = let f = found_head c.args.s.now c.loop-head.i c.in-Some.head c.record_at.ensures c.in-Some.is in omega (arith, f.within)

pub loop-head-preserved : goal.loop-head-preserved
loop-head-preserved c =
    let l = c.loop-head in
    let h = c.in-Some.head in
    let x = c.args.cell in
    let f = found_head c.args.s.now l.i h c.record_at.ensures c.in-Some.is in (
      ap length c.put_cell-to.ensures.bytes ∙ simp length-sets l.invariant.0,
      omega (arith, l.invariant.1, c.put_cell-to.ensures.behind, cells_length c.args.s.now l.i h f x l.before),
      l.invariant.2 ∙ cells_put c.args.s.now l.i h f x l.before l.out _ l.to _ c.put_cell-to.ensures.bytes c.put_cell-to.ensures.behind,
    )

pub returns : goal.returns
returns c =
    let l = c.loop-head in
    let s = c.args.s.now in
    let e = cells_end c.args.cell s l.before l.i (no_head s l.i c.record_at.ensures c.in_default.is) in
    record {
      bytes = sym (l.invariant.2 ∙ ap (sets l.out l.to) e);
      behind = omega (arith, l.invariant.1, ap length e);
    }
