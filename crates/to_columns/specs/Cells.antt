-- A column by its cells. Assumes nothing.
use Rattle.std.specs.Prelude.{ℕ, List}
use Rattle.btsnoop_read.specs.declared.RecordHead.{RecordHead}
use Rattle.btsnoop_read.specs.Format.{Record, record_of}
use Rattle.to_columns.specs.declared.Cell.{Cell}
use Rattle.to_columns.specs.declared.Cell.TheVariants as cell
use Rattle.btsnoop_columns.specs.Format.{lengths, flags, drops, timestamp, bytes, difference}

abbrev pub cell_of : Cell → Record → List ℕ
cell_of cell.Lengths = lengths
cell_of cell.Flags = flags
cell_of cell.Drops = drops
cell_of cell.Timestamps = timestamp
cell_of cell.Bytes = bytes

-- the record of these numbers and bytes, with the difference for the timestamp
abbrev pub cell_record : RecordHead → ℕ → List ℕ → Record
cell_record head before part = record_of head.original head.flags head.drops (difference head.timestamp before) part
