use Rattle.std.proofs.Common.{◌+◌, ◌%◌, ◌^◌, ◌≤◌, length, sym, refl, ap, ◌∙◌, arith, rules}
use lib.Seq.{sets}
use Rattle.btsnoop_put.specs.Put.{put_length}
use Rattle.from_columns.specs.Take.{total_start, total_next, rest_put, rest_end}
use Rattle.from_columns.proofs.put_records.Goals as goal

pub loop-i-init : goal.loop-i-init
loop-i-init c = let a = c.args in (omega (arith, c.requires.size, total_start a.c.now a.n), omega arith, refl, refl)

pub overflow_add-end : goal.overflow_add-end
overflow_add-end c =
    let a = c.args in
    let l = c.loop-i in
    omega (arith, l.invariant.0, c.u32_at-included.ensures, total_next a.c.now a.n l.i (omega arith))

pub slice_bounds-put_record-end : goal.slice_bounds-put_record-end
slice_bounds-put_record-end c =
    let a = c.args in
    let l = c.loop-i in
    let k : l.from + c.u32_at-included.result ≤ length a.c.now = omega (arith, l.invariant.0, c.u32_at-included.ensures, total_next a.c.now a.n l.i (omega arith)) in
    search rules

pub overflow_add-at : goal.overflow_add-at
overflow_add-at c =
    let a = c.args in
    let l = c.loop-i in
    omega (arith, c.requires.size, l.invariant.0, l.invariant.1, l.invariant.2, c.u32_at-included.ensures, total_next a.c.now a.n l.i (omega arith))

pub overflow_add-at-in-loop-i : goal.overflow_add-at-in-loop-i
overflow_add-at-in-loop-i c =
    let a = c.args in
    let l = c.loop-i in
    omega (arith, c.requires.size, l.invariant.0, l.invariant.1, l.invariant.2, c.u32_at-included.ensures, total_next a.c.now a.n l.i (omega arith))

pub loop-i-preserved : goal.loop-i-preserved
loop-i-preserved c =
    let a = c.args in
    let l = c.loop-i in
    let t = total_next a.c.now a.n l.i (omega arith) in (
      omega (arith, l.invariant.0, c.u32_at-included.ensures),
      omega (arith, l.invariant.1),
      ap length c.put_record.ensures ∙ put_length l.out _ _ ∙ l.invariant.2,
      l.invariant.3
          ∙ rest_put a.c.now a.n l.i l.from l.before (omega arith) _ _ _ _ _ c.u32_at-original.ensures c.u32_at-included.ensures c.u32_at-flags.ensures c.u32_at-drops.ensures
          (ap (λ x. (l.before + x) % 2 ^ 64) c.u64_at-since.ensures) l.out _ l.at (omega (arith, l.invariant.0, c.u32_at-included.ensures)) (omega (arith, c.requires.size, l.invariant.0, l.invariant.1, l.invariant.2, c.u32_at-included.ensures)) c.put_record.ensures,
    )

pub returns : goal.returns
returns c =
    let a = c.args in
    let l = c.loop-i in
    sym (l.invariant.3 ∙ ap (sets l.out l.at) (rest_end a.c.now a.n l.i l.from l.before (omega arith)))
