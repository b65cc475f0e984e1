use Rattle.std.proofs.Common.{◌≡◌, ◌^◌, ◌∙◌, arith, rules}
use Rattle.big_endian.specs.Laws.{at_none, at_next, at_past, below_next, from_part, room, nothing_small}
use Rattle.big_endian.proofs.number.Goals as goal

pub loop-i-init : goal.loop-i-init
loop-i-init c = (omega arith, at_none _)

pub overflow_mul-x : goal.overflow_mul-x
overflow_mul-x c = omega (arith, room c.loop-i.i (omega arith))

pub overflow_add-x : goal.overflow_add-x
overflow_add-x c = omega (arith, room c.loop-i.i (omega arith))

pub loop-i-preserved : goal.loop-i-preserved
loop-i-preserved c =
    let l = c.loop-i in
    (below_next l.i l.x _ l.invariant.0 (search rules), at_next _ l.i l.x _ l.invariant.1 c.byte_at.ensures)

pub returns-then-s-at : goal.returns-then-s-at
returns-then-s-at c = record {
  bytes = at_past c.args.n c.args.s.now c.args.at c.if-s-at.true;
  small = nothing_small c.args.n;
}

pub returns-clause-bytes : goal.returns-clause-bytes
returns-clause-bytes c =
    let l = c.loop-i in
    let e : l.i ≡ c.args.n = omega arith in
    from_part c.args.n c.args.s.now c.args.at (l.invariant.1 ∙ rw e)

pub returns-clause-small : goal.returns-clause-small
returns-clause-small c =
    let l = c.loop-i in
    let e : l.i ≡ c.args.n = omega arith in
    let f : 256 ^ l.i ≡ 256 ^ c.args.n = rw e in
    omega (arith, l.invariant.0, f)
