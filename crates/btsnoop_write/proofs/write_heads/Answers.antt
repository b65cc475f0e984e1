use Rattle.std.proofs.Common.{ℕ, ◌+◌, ◌*◌, length, sym, ap, ◌∙◌, arith, Ok}
use Rattle.wire.specs.Wire.{write_reply}
use Rattle.btsnoop_read.specs.Laws.{failed, passed}
use Rattle.btsnoop_write.specs.Heads.{lengths, drops, timestamps}
use Rattle.btsnoop_write.specs.Laws.{heads_length, unwritten, no_room, all_written}
use Rattle.std.proofs.lemmas.Bool.{not_from_false, not_from_true}
use Rattle.btsnoop_write.proofs.write_heads.Goals as goal

pub returns-then-not-of_form : goal.returns-then-not-of_form
returns-then-not-of_form g c =
    let hs = g.H.HeadList.heads c.args.heads.now in
    let r = unwritten c.args.events.now (lengths hs) (drops hs) (timestamps hs) c.args.out.now (failed c.of_form.ensures (not_from_false _ c.if-not-of_form.true)) in
    record { reply = r.0; bytes = r.1 }

pub returns-then-room-lt16 : goal.returns-then-room-lt16
returns-then-room-lt16 g c =
    let hs = g.H.HeadList.heads c.args.heads.now in
    let r = no_room c.args.events.now (lengths hs) (drops hs) (timestamps hs) c.args.out.now (passed c.of_form.ensures (not_from_true _ c.if-not-of_form.false)) (omega (arith, c.if-room-lt16.true)) in
    record { reply = r.0; bytes = r.1 }

pub returns-then-room-bytes : goal.returns-then-room-bytes
returns-then-room-bytes g c =
    let hs = g.H.HeadList.heads c.args.heads.now in
    let r = no_room c.args.events.now (lengths hs) (drops hs) (timestamps hs) c.args.out.now (passed c.of_form.ensures (not_from_true _ c.if-not-of_form.false)) (omega (arith, c.if-room-lt16.false, c.if-room-bytes.true)) in
    record { reply = r.0; bytes = r.1 }

pub returns-then-room-bytes-2 : goal.returns-then-room-bytes-2
returns-then-room-bytes-2 g c =
    let hs = g.H.HeadList.heads c.args.heads.now in
    let r = no_room c.args.events.now (lengths hs) (drops hs) (timestamps hs) c.args.out.now (passed c.of_form.ensures (not_from_true _ c.if-not-of_form.false)) (omega (arith, c.if-room-lt16.false, c.if-room-bytes.false, c.if-room-bytes-2.true, heads_length hs, c.count-n.ensures)) in
    record { reply = r.0; bytes = r.1 }

pub put_records-requires : goal.put_records-requires
put_records-requires g c = record {
  form = passed c.of_form.ensures (not_from_true _ c.if-not-of_form.false);
  room = omega (arith, c.count-n.ensures, c.if-room-lt16.false, c.if-room-bytes.false, c.if-room-bytes-2.false);
}

pub overflow_mul-result : goal.overflow_mul-result
overflow_mul-result g c = omega (arith, c.if-room-lt16.false, c.if-room-bytes.false, c.if-room-bytes-2.false)

pub overflow_add-result : goal.overflow_add-result
overflow_add-result g c = omega (arith, c.if-room-lt16.false, c.if-room-bytes.false, c.if-room-bytes-2.false)

pub overflow_add-result-2 : goal.overflow_add-result-2
overflow_add-result-2 g c = omega (arith, c.if-room-lt16.false, c.if-room-bytes.false, c.if-room-bytes-2.false)

pub returns : goal.returns
returns g c =
    let hs = g.H.HeadList.heads c.args.heads.now in
    let r = all_written c.args.events.now (lengths hs) (drops hs) (timestamps hs) c.args.out.now _ _ (passed c.of_form.ensures (not_from_true _ c.if-not-of_form.false)) (omega (arith, c.if-room-lt16.false, c.if-room-bytes.false, c.if-room-bytes-2.false, heads_length hs, c.count-n.ensures)) c.put_header.ensures c.put_records.ensures in
    record { reply = ap (λ (n : ℕ). write_reply (Ok (16 + 24 * n + length c.args.events.now))) (c.count-n.ensures ∙ sym (heads_length hs)) ∙ r.0; bytes = r.1 }
