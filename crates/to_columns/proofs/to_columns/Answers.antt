use Rattle.std.proofs.Common.{ℕ, ap, ◌∙◌, arith}
use lib.Seq.{sets}
use Rattle.btsnoop_read.specs.Format.{header}
use Rattle.btsnoop_measure.specs.declared.Measured.{Measured}
use Rattle.btsnoop_read.specs.Laws.{failed, passed}
use Rattle.btsnoop_measure.specs.Laws.{was_whole, was_cut, was_total}
use Rattle.btsnoop_columns.specs.Format.{places, numbers}
use Rattle.btsnoop_columns.proofs.RoundTrip.{bytes_of}
use Rattle.to_columns.specs.Put.{no_header, cut_record, too_long, no_room, all_put, all_written, size_in, cells_size}
use Rattle.std.proofs.lemmas.Bool.{not_from_false, not_from_true}
use Rattle.to_columns.proofs.to_columns.Goals as goal

pub returns-then-not-is_header : goal.returns-then-not-is_header
returns-then-not-is_header c =
    let r = no_header c.args.s.now c.args.out.now (failed c.is_header.ensures (not_from_false _ c.if-not-is_header.true)) in record { reply = r.0; bytes = r.1 }

pub returns-in_default : goal.returns-in_default
returns-in_default c =
    let r = cut_record c.args.s.now c.args.out.now (passed c.is_header.ensures (not_from_true _ c.if-not-is_header.false)) (was_cut _ c.in_default.field-0 c.measure_all.ensures c.in_default.is) in record { reply = r.0; bytes = r.1 }

pub returns-then-n-gt4294967255 : goal.returns-then-n-gt4294967255
returns-then-n-gt4294967255 c =
    let r = too_long c.args.s.now (bytes_of c.args.s.now c.type_inv.s) (passed c.is_header.ensures (not_from_true _ c.if-not-is_header.false)) (was_whole _ c.in-Ok.m c.measure_all.ensures c.in-Ok.is) c.args.out.now c.if-n-gt4294967255.true in record { reply = r.0; bytes = r.1 }

pub returns-then-out-n : goal.returns-then-out-n
returns-then-out-n c =
    let r = no_room c.args.s.now (bytes_of c.args.s.now c.type_inv.s) (passed c.is_header.ensures (not_from_true _ c.if-not-is_header.false)) (was_whole _ c.in-Ok.m c.measure_all.ensures c.in-Ok.is) c.args.out.now c.if-n-gt4294967255.false c.if-out-n.true in record { reply = r.0; bytes = r.1 }

pub put_places-requires : goal.put_places-requires
put_places-requires c =
    let s = c.args.s.now in
    let e = was_total _ c.in-Ok.m c.measure_all.ensures c.in-Ok.is in
    let n = size_in s (bytes_of c.args.s.now c.type_inv.s) (passed c.is_header.ensures (not_from_true _ c.if-not-is_header.false)) (was_whole _ c.in-Ok.m c.measure_all.ensures c.in-Ok.is) in
    omega (arith, n, ap (λ (m : Measured). m.records) e, ap (λ (m : Measured). m.bytes) e, c.if-n-gt4294967255.false)

pub put_column-flags-requires : goal.put_column-flags-requires
put_column-flags-requires c =
    let s = c.args.s.now in
    let w = was_whole _ c.in-Ok.m c.measure_all.ensures c.in-Ok.is in
    let n = cells_size s (bytes_of c.args.s.now c.type_inv.s) (passed c.is_header.ensures (not_from_true _ c.if-not-is_header.false)) w in
    omega (arith, n, c.if-out-n.false)

pub put_column-drops-requires : goal.put_column-drops-requires
put_column-drops-requires c =
    let s = c.args.s.now in
    let w = was_whole _ c.in-Ok.m c.measure_all.ensures c.in-Ok.is in
    let n = cells_size s (bytes_of c.args.s.now c.type_inv.s) (passed c.is_header.ensures (not_from_true _ c.if-not-is_header.false)) w in
    omega (arith, n, c.if-out-n.false, c.put_column-flags.ensures.behind)

pub put_column-timestamps-requires : goal.put_column-timestamps-requires
put_column-timestamps-requires c =
    let s = c.args.s.now in
    let w = was_whole _ c.in-Ok.m c.measure_all.ensures c.in-Ok.is in
    let n = cells_size s (bytes_of c.args.s.now c.type_inv.s) (passed c.is_header.ensures (not_from_true _ c.if-not-is_header.false)) w in
    omega (arith, n, c.if-out-n.false, c.put_column-flags.ensures.behind, c.put_column-drops.ensures.behind)

pub put_column-bytes-requires : goal.put_column-bytes-requires
put_column-bytes-requires c =
    let s = c.args.s.now in
    let w = was_whole _ c.in-Ok.m c.measure_all.ensures c.in-Ok.is in
    let n = cells_size s (bytes_of c.args.s.now c.type_inv.s) (passed c.is_header.ensures (not_from_true _ c.if-not-is_header.false)) w in
    omega (arith, n, c.if-out-n.false, c.put_column-flags.ensures.behind, c.put_column-drops.ensures.behind, c.put_column-timestamps.ensures.behind)

pub put_column-requires : goal.put_column-requires
put_column-requires c =
    let s = c.args.s.now in
    let w = was_whole _ c.in-Ok.m c.measure_all.ensures c.in-Ok.is in
    let n = cells_size s (bytes_of c.args.s.now c.type_inv.s) (passed c.is_header.ensures (not_from_true _ c.if-not-is_header.false)) w in
    omega (arith, n, c.if-out-n.false, c.put_column-flags.ensures.behind, c.put_column-drops.ensures.behind, c.put_column-timestamps.ensures.behind, c.put_column-bytes.ensures.behind)

pub overflow_add-result : goal.overflow_add-result
overflow_add-result c = omega (arith, c.if-n-gt4294967255.false)

pub returns : goal.returns
returns c =
    let r = let s = c.args.s.now in
    let o = c.args.out.now in
    let y = bytes_of s c.type_inv.s in
    let e = was_total _ c.in-Ok.m c.measure_all.ensures c.in-Ok.is in
    let h = passed c.is_header.ensures (not_from_true _ c.if-not-is_header.false) in
    let w = was_whole _ c.in-Ok.m c.measure_all.ensures c.in-Ok.is in
    all_written s y h w o _ c.if-n-gt4294967255.false c.if-out-n.false
    (all_put s y h w o _ _ _ _ _ _ _ _ _ _ _
    (c.put_header.ensures ∙ ap (λ (d : ℕ). sets o 0 (header d)) c.u32_at-datalink.ensures)
    (c.put_places.ensures ∙ (λ k. sets c.put_header.new.out 16 (numbers (places (e k).records (e k).bytes))))
    c.put_column-flags.ensures.bytes c.put_column-flags.ensures.behind
    c.put_column-drops.ensures.bytes c.put_column-drops.ensures.behind
    c.put_column-timestamps.ensures.bytes c.put_column-timestamps.ensures.behind
    c.put_column-bytes.ensures.bytes c.put_column-bytes.ensures.behind
    c.put_column.ensures.bytes) in record { reply = r.0; bytes = r.1 }
