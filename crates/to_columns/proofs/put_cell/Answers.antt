use Rattle.std.proofs.Common.{length, sym, refl, ap, ◌∙◌}
use lib.Seq.{sets}
use Rattle.big_endian.specs.BigEndian.{be}
use Rattle.big_endian.specs.Laws.{length_be}
use Rattle.to_columns.specs.declared.Cell.TheVariants as cell
use Rattle.to_columns.specs.Cells.{cell_record}
use Rattle.to_columns.specs.Put.{put_as, lengths_put, length_two}
use Rattle.to_columns.proofs.put_cell.Goals as goal

pub returns-in-Lengths : goal.returns-in-Lengths
returns-in-Lengths c =
    let r = let a = c.args in
    let r = cell_record a.head a.before a.part.now in
    put_as a.cell cell.Lengths r a.out.now _ a.at 8 c.in-Lengths.is (lengths_put a.head.original (length a.part.now) a.out.now _ _ a.at c.put_number.ensures c.put_number-in-Lengths.ensures) (length_two a.head.original (length a.part.now)) in record { bytes = r.0; behind = r.1 }

pub returns-in-Flags : goal.returns-in-Flags
returns-in-Flags c =
    let r = let a = c.args in
    let r = cell_record a.head a.before a.part.now in
    put_as a.cell cell.Flags r a.out.now _ a.at 4 c.in-Flags.is c.put_number-in-Flags.ensures (sym (length_be 4 a.head.flags)) in record { bytes = r.0; behind = r.1 }

pub returns-in-Drops : goal.returns-in-Drops
returns-in-Drops c =
    let r = let a = c.args in
    let r = cell_record a.head a.before a.part.now in
    put_as a.cell cell.Drops r a.out.now _ a.at 4 c.in-Drops.is c.put_number-in-Drops.ensures (sym (length_be 4 a.head.drops)) in record { bytes = r.0; behind = r.1 }

pub returns-in-Timestamps : goal.returns-in-Timestamps
returns-in-Timestamps c =
    let r = let a = c.args in
    let r = cell_record a.head a.before a.part.now in
    put_as a.cell cell.Timestamps r a.out.now _ a.at 8 c.in-Timestamps.is (c.put_number-in-Timestamps.ensures ∙ ap (λ d. sets a.out.now a.at (be 8 d)) c.difference.ensures) (sym (length_be 8 r.timestamp)) in record { bytes = r.0; behind = r.1 }

pub returns-in-Bytes : goal.returns-in-Bytes
returns-in-Bytes c =
    let r = let a = c.args in
    let r = cell_record a.head a.before a.part.now in
    put_as a.cell cell.Bytes r a.out.now _ a.at (length a.part.now) c.in-Bytes.is c.put_bytes.ensures refl in record { bytes = r.0; behind = r.1 }
