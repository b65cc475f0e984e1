use Rattle.std.proofs.Common.{sym, ◌∙◌, arith}
use Rattle.text.specs.Append.{room_all, room_end}
use Rattle.text_read.specs.Bytes.{next_octet}
use Rattle.text_read.proofs.octets_at.Goals as goal

pub loop-n-preserved : goal.loop-n-preserved
loop-n-preserved c =
    let l = c.loop-n in
    let e = next_octet c.args.s.now l.next c.in-Some.b (sym c.octet_at.ensures ∙ c.in-Some.is) in
    (omega arith, l.invariant.1 ∙ rw e (room_all l.into l.n _ _ (omega arith)), l.invariant.2 ∙ rw e (room_end l.into l.n _ _ (omega arith)))
