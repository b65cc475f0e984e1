-- The number of records and of their bytes. Assumes nothing.
use Rattle.std.specs.Prelude.{Result, Ok, Err, cond, List, length}
use Rattle.btsnoop_read.specs.Format.{Record}
use Rattle.btsnoop_read.specs.Read.{Records}
use Rattle.btsnoop_columns.specs.Format.{data_length}
use Rattle.btsnoop_measure.specs.declared.Measured.{Measured}

abbrev pub total : List Record → Measured
total rs = record { records = length rs; bytes = data_length rs }

abbrev pub measured_of : Records → Result Measured Measured
measured_of w = cond w.whole (Ok (total w.records)) (Err (total w.records))
