use Rattle.std.proofs.Common.{length, sym, ap, ◌∙◌, arith, length-set}
use Rattle.big_endian_write.specs.Laws.{put_byte, put_none}
use Rattle.big_endian_write.proofs.put_number.Goals as goal

pub loop-i-preserved : goal.loop-i-preserved
loop-i-preserved c =
    let l = c.loop-i in
    (ap length c.put_byte.ensures ∙ simp length-set l.invariant.0, l.invariant.1 ∙ put_byte l.out _ c.args.at l.i l.rest c.put_byte.ensures (omega arith))

pub returns : goal.returns
returns c =
    let l = c.loop-i in
    sym (l.invariant.1 ∙ put_none l.out c.args.at l.i l.rest (omega arith))
