use Rattle.std.proofs.Common.{◌∙◌, arith}
use Rattle.from_columns.specs.Take.{total_start, longer_start, total_next, not_longer, longer, total_end, longer_end, agree, disagree}
use Rattle.from_columns.proofs.lengths_agree.Goals as goal

pub loop-i-init : goal.loop-i-init
loop-i-init c = let a = c.args in (omega arith, omega (arith, total_start a.c.now a.n), longer_start a.c.now a.n)

pub returns-then-original-included : goal.returns-then-original-included
returns-then-original-included c =
    let a = c.args in
    let l = c.loop-i in
    disagree a.c.now a.n a.b (l.invariant.2 ∙ longer a.c.now a.n l.i (omega arith) c.u32_at-original.ensures c.u32_at-included.ensures c.if-original-included.true)

pub loop-i-preserved : goal.loop-i-preserved
loop-i-preserved c =
    let a = c.args in
    let l = c.loop-i in (
      omega arith,
      omega (arith, l.invariant.1, c.u32_at-included.ensures, total_next a.c.now a.n l.i (omega arith)),
      l.invariant.2 ∙ not_longer a.c.now a.n l.i (omega arith) c.u32_at-original.ensures c.u32_at-included.ensures c.if-original-included.false,
    )

pub returns : goal.returns
returns c =
    let a = c.args in
    let l = c.loop-i in
    agree a.c.now a.n a.b (omega (arith, l.invariant.1, total_end a.c.now a.n l.i (omega arith))) (l.invariant.2 ∙ longer_end a.c.now a.n l.i (omega arith))
