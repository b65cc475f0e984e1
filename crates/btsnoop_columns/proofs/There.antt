-- The round trip of a recording. Assumes nothing.
use Rattle.std.specs.Prelude.{ℕ, ◌+◌, ◌*◌, ◌<◌, ◌≤◌, ◌≡◌, refl, Bool, true, false, cond, List, [], ◌∷◌, ◌++◌, length, get_or, take, drop}
use Rattle.std.proofs.Common.{sym, ap, ◌∙◌, subst, append-nil, arith, le-leb, leb-true, eq-eqb, eqb-true, Fits, length-append}
use Rattle.std.proofs.Math.Option.{Option, none, some}
use Rattle.std.proofs.lemmas.Bool.{lt-leb}
use Rattle.std.specs.Int.{w8}
use Rattle.std.proofs.Math.Seq.{take-append_seam}
use Rattle.model.proofs.Laws.{and_left, and_right}
use Rattle.big_endian.specs.BigEndian.{be_at}
use Rattle.big_endian.specs.Laws.{Bytes, length_be}
use Rattle.btsnoop_read.specs.Format.{Record, header, is_datalink, records_bytes, recording_bytes, AllOfForm}
use Rattle.btsnoop_read.specs.Read.{Recording, is_header, datalink_in, recording_in}
use Rattle.btsnoop_read.proofs.Inverse.{head_16, header_length, datalink_back, header_back, header_in, read_written, accepted}
use Rattle.btsnoop_columns.specs.Format.{lengths, flags, drops, timestamp, bytes, column, differenced, data_length, places, numbers, columns, columns_bytes}
use Rattle.btsnoop_columns.specs.Read.{gathered, included_total, none_longer, stand, count_in, data_in, pairs_stand, length_is, bytes_agree, is_arranged, summed, gathered_in, columns_in, longest, size_fits, sized, arranged_as, arranged, recorded_as, recorded}
use Rattle.btsnoop_columns.specs.Statement.{ThereAndBack, BackAndThere, told, PairsTell, EachPairTells}
use Rattle.btsnoop_columns.proofs.Inverse.{and_both, form_differenced, form_summed, summed_differenced, differenced_summed, length_differenced, length_summed, data_differenced, data_summed, Below32, stand_written, number_at, length_numbers, stand_back, length_column, length_lengths, length_bytes_column, pass, total_written, longer_written, gathered_written, length_gathered, form_gathered, data_gathered, lengths_gathered, numbers_gathered, of_flags, of_drops, of_timestamp, bytes_gathered}
use Rattle.btsnoop_columns.proofs.Accepted.{arranged_recorded}

-- ---- the two round trips

pub there_and_back : ThereAndBack
there_and_back s c y e = arranged_recorded s c y e
