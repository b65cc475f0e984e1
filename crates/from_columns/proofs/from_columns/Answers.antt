use Rattle.std.proofs.Common.{ℕ, ◌/◌, ap, arith}
use Rattle.btsnoop_read.specs.Laws.{failed, passed}
use Rattle.btsnoop_columns.specs.Read.{included_total}
use Rattle.btsnoop_columns.proofs.RoundTrip.{bytes_of, is_arranged_lem}
use Rattle.from_columns.specs.Take.{no_header, not_arranged_lem, no_room, all_written}
use Rattle.std.proofs.lemmas.Bool.{not_from_false, not_from_true}
use Rattle.from_columns.proofs.from_columns.Goals as goal

pub returns-then-not-is_header : goal.returns-then-not-is_header
returns-then-not-is_header c =
    let r = no_header c.args.c.now c.args.out.now (failed c.is_header.ensures (not_from_false _ c.if-not-is_header.true)) in record { reply = r.0; bytes = r.1 }

pub returns-then-not-is_arranged : goal.returns-then-not-is_arranged
returns-then-not-is_arranged c =
    let r = not_arranged_lem c.args.c.now c.args.out.now (passed c.is_header.ensures (not_from_true _ c.if-not-is_header.false)) (failed c.is_arranged.ensures (not_from_false _ c.if-not-is_arranged.true)) in record { reply = r.0; bytes = r.1 }

pub overflow_sub-size : goal.overflow_sub-size
overflow_sub-size c =
    let a = is_arranged_lem c.args.c.now (passed c.is_arranged.ensures (not_from_true _ c.if-not-is_arranged.false)) in
    omega (arith, a.size)

pub returns-then-out-size : goal.returns-then-out-size
returns-then-out-size c =
    let r = no_room c.args.c.now (bytes_of c.args.c.now c.type_inv.c) (passed c.is_header.ensures (not_from_true _ c.if-not-is_header.false)) (passed c.is_arranged.ensures (not_from_true _ c.if-not-is_arranged.false)) c.args.out.now c.if-out-size.true in record { reply = r.0; bytes = r.1 }

pub put_records-requires : goal.put_records-requires
put_records-requires c =
    let s = c.args.c.now in
    let a = is_arranged_lem s (passed c.is_arranged.ensures (not_from_true _ c.if-not-is_arranged.false)) in
    let n = ap (λ x. x / 8) c.u32_at.ensures in record {
      size = omega (arith, n, a.size, a.total, ap (λ (x : ℕ). included_total s x 56) n);
      room = omega (arith, a.size, c.if-out-size.false);
    }

pub returns : goal.returns
returns c =
    let r = let s = c.args.c.now in
    all_written s (bytes_of s c.type_inv.c) (passed c.is_header.ensures (not_from_true _ c.if-not-is_header.false)) (passed c.is_arranged.ensures (not_from_true _ c.if-not-is_arranged.false)) c.args.out.now _ _ c.u32_at-datalink.ensures (ap (λ x. x / 8) c.u32_at.ensures) c.if-out-size.false c.put_header.ensures c.put_records.ensures in record { reply = r.0; bytes = r.1 }
