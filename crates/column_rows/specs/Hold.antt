-- Every row, in one check. Assumes nothing.
use Rattle.std.specs.Prelude.{◌≡◌, refl, true, ◌++◌}
use Rattle.big_endian.specs.BigEndian.{be, be_at}
use Rattle.btsnoop_read.specs.Format.{records_bytes}
use Rattle.btsnoop_read.specs.Read.{is_whole, records_from}
use Rattle.btsnoop_columns.specs.Format.{column, differenced, data_length}
use Rattle.btsnoop_columns.specs.Read.{stand, included_total, none_longer, is_arranged, gathered, summed}
use Rattle.column_rows.specs.Case.{all_hold}
use Rattle.column_rows.specs.Rows.{to_rows, from_rows, answer_rows}

pub rows_hold : all_hold (to_rows ++ from_rows ++ answer_rows) ≡ true
unfolding be be_at records_bytes is_whole records_from column differenced data_length stand included_total none_longer is_arranged gathered summed
rows_hold = refl
