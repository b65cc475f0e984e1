-- The round trip of an arrangement, and where its columns stand. Assumes nothing.
use Rattle.std.specs.Prelude.{ℕ, ◌+◌, ◌*◌, ◌<◌, ◌≤◌, ◌≡◌, refl, Bool, true, false, cond, List, [], ◌∷◌, ◌++◌, length, get_or, take, drop}
use Rattle.std.proofs.Common.{sym, ap, ◌∙◌, subst, append-nil, arith, le-leb, leb-true, eq-eqb, eqb-true, Fits, length-append}
use Rattle.std.proofs.Math.Option.{Option, none, some}
use Rattle.std.proofs.lemmas.Bool.{lt-leb}
use Rattle.std.specs.Int.{w8}
use Rattle.std.proofs.Math.Seq.{take-append_seam}
use Rattle.model.proofs.Laws.{and_left, and_right}
use Rattle.big_endian.specs.BigEndian.{be_at}
use Rattle.big_endian.specs.Laws.{Bytes, length_be}
use Rattle.btsnoop_read.specs.Format.{Record, header, is_datalink, records_bytes, recording_bytes, AllOfForm}
use Rattle.btsnoop_read.specs.Read.{Recording, is_header, datalink_in, recording_in}
use Rattle.btsnoop_read.proofs.Inverse.{head_16, header_length, datalink_back, header_back, header_in, read_written, accepted}
use Rattle.btsnoop_columns.specs.Format.{lengths, flags, drops, timestamp, bytes, column, differenced, data_length, places, numbers, columns, columns_bytes}
use Rattle.btsnoop_columns.specs.Read.{gathered, included_total, none_longer, stand, count_in, data_in, pairs_stand, length_is, bytes_agree, is_arranged, summed, gathered_in, columns_in, longest, size_fits, sized, arranged_as, arranged, recorded_as, recorded}
use Rattle.btsnoop_columns.specs.Statement.{ThereAndBack, BackAndThere, told, PairsTell, EachPairTells}
use Rattle.btsnoop_columns.proofs.Inverse.{and_both, form_differenced, form_summed, summed_differenced, differenced_summed, length_differenced, length_summed, data_differenced, data_summed, Below32, stand_written, number_at, length_numbers, stand_back, length_column, length_lengths, length_bytes_column, pass, total_written, longer_written, gathered_written, length_gathered, form_gathered, data_gathered, lengths_gathered, numbers_gathered, of_flags, of_drops, of_timestamp, bytes_gathered}
use Rattle.btsnoop_columns.proofs.RoundTrip.{pairs_tell}
use Rattle.btsnoop_columns.proofs.Accepted.{by_recording, recorded_arranged}

pub back_and_there : BackAndThere
back_and_there c s y e = recorded_arranged c s y e

same_records : (o : Option Recording) (d e : ℕ) (rs us : List Record) → o ≡ some (d, rs) → o ≡ some (e, us) → rs ≡ us
same_records o d e rs us p q = let x : ◌≡◌ {A = Recording} (d, rs) (e, us) = cc in ap (λ (r : Recording). r.1) x

pub each_pair_tells : EachPairTells
each_pair_tells s c d rs b p e =
    let r = by_recording s c e in
    let a = accepted s r.0 r.1 b r.2 in
    rw (same_records (recording_in s) d r.0 rs r.1 p r.2)
    (subst (λ (u : List ℕ). PairsTell u (differenced 0 r.1)) r.4
    (pairs_tell r.0 r.1 a.1 a.2 (omega (arith, r.3, ap length r.4))))
