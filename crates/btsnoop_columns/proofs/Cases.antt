-- A recording of two records, the second's timestamp below the first's, and its arrangement: each round trip and the pairs applied to them,
-- with every hypothesis met. Assumes nothing.
use Rattle.std.specs.Prelude.{ℕ, zero, suc, ◌≡◌, refl, Bool, true, ◌&&◌, List, [], ◌∷◌, ◌++◌, ltb, take, replicate}
use Rattle.std.proofs.Math.Option.{some}
use Rattle.std.proofs.Common.{arith, ltb-true}
use Rattle.model.specs.Answer.{ok}
use Rattle.model.proofs.Laws.{and_left, and_right}
use Rattle.big_endian.specs.BigEndian.{be, be_at}
use Rattle.big_endian.specs.Laws.{Bytes}
use Rattle.btsnoop_read.specs.Format.{Record, record_of, records_bytes}
use Rattle.btsnoop_read.specs.Read.{is_whole, records_from, recording_in}
use Rattle.btsnoop_columns.specs.Format.{column, differenced, data_length}
use Rattle.btsnoop_columns.specs.Read.{stand, included_total, none_longer, is_arranged, gathered, summed, arranged, recorded}
use Rattle.btsnoop_columns.specs.Answer.{to_columns_of, to_columns_left, from_columns_of, from_columns_left}
use Rattle.btsnoop_columns.specs.Statement.{told, PairsTell}
use Rattle.btsnoop_columns.proofs.There.{there_and_back}
use Rattle.btsnoop_columns.proofs.Back.{back_and_there, each_pair_tells}
use Rattle.btsnoop_columns.proofs.Left.{left_there_and_back, left_back_and_there}

abbrev pub recording : List ℕ
recording =
    -- `btsnoop` and zero, version 1, datalink 1002
    0x62 ∷ 0x74 ∷ 0x73 ∷ 0x6E ∷ 0x6F ∷ 0x6F ∷ 0x70 ∷ 0x00 ∷ 0x00 ∷ 0x00 ∷ 0x00 ∷ 0x01 ∷ 0x00 ∷ 0x00 ∷ 0x03 ∷ 0xEA
    -- original length 5, included 2, flags 3, drops 0
    ∷ 0x00 ∷ 0x00 ∷ 0x00 ∷ 0x05 ∷ 0x00 ∷ 0x00 ∷ 0x00 ∷ 0x02 ∷ 0x00 ∷ 0x00 ∷ 0x00 ∷ 0x03 ∷ 0x00 ∷ 0x00 ∷ 0x00 ∷ 0x00
    -- timestamp 7, the bytes
    ∷ 0x00 ∷ 0x00 ∷ 0x00 ∷ 0x00 ∷ 0x00 ∷ 0x00 ∷ 0x00 ∷ 0x07 ∷ 0x0E ∷ 0x04
    -- original length 1, included 1, flags 1, drops 9
    ∷ 0x00 ∷ 0x00 ∷ 0x00 ∷ 0x01 ∷ 0x00 ∷ 0x00 ∷ 0x00 ∷ 0x01 ∷ 0x00 ∷ 0x00 ∷ 0x00 ∷ 0x01 ∷ 0x00 ∷ 0x00 ∷ 0x00 ∷ 0x09
    -- timestamp 4, the byte
    ∷ 0x00 ∷ 0x00 ∷ 0x00 ∷ 0x00 ∷ 0x00 ∷ 0x00 ∷ 0x00 ∷ 0x04 ∷ 0xAB
    ∷ []

abbrev pub arrangement : List ℕ
arrangement =
    -- the header
    0x62 ∷ 0x74 ∷ 0x73 ∷ 0x6E ∷ 0x6F ∷ 0x6F ∷ 0x70 ∷ 0x00 ∷ 0x00 ∷ 0x00 ∷ 0x00 ∷ 0x01 ∷ 0x00 ∷ 0x00 ∷ 0x03 ∷ 0xEA
    -- offset and length of the lengths, the flags, the drops, the timestamps and the bytes
    ∷ 0x00 ∷ 0x00 ∷ 0x00 ∷ 0x38 ∷ 0x00 ∷ 0x00 ∷ 0x00 ∷ 0x10
    ∷ 0x00 ∷ 0x00 ∷ 0x00 ∷ 0x48 ∷ 0x00 ∷ 0x00 ∷ 0x00 ∷ 0x08
    ∷ 0x00 ∷ 0x00 ∷ 0x00 ∷ 0x50 ∷ 0x00 ∷ 0x00 ∷ 0x00 ∷ 0x08
    ∷ 0x00 ∷ 0x00 ∷ 0x00 ∷ 0x58 ∷ 0x00 ∷ 0x00 ∷ 0x00 ∷ 0x10
    ∷ 0x00 ∷ 0x00 ∷ 0x00 ∷ 0x68 ∷ 0x00 ∷ 0x00 ∷ 0x00 ∷ 0x03
    -- original and included lengths
    ∷ 0x00 ∷ 0x00 ∷ 0x00 ∷ 0x05 ∷ 0x00 ∷ 0x00 ∷ 0x00 ∷ 0x02 ∷ 0x00 ∷ 0x00 ∷ 0x00 ∷ 0x01 ∷ 0x00 ∷ 0x00 ∷ 0x00 ∷ 0x01
    -- flags
    ∷ 0x00 ∷ 0x00 ∷ 0x00 ∷ 0x03 ∷ 0x00 ∷ 0x00 ∷ 0x00 ∷ 0x01
    -- drops
    ∷ 0x00 ∷ 0x00 ∷ 0x00 ∷ 0x00 ∷ 0x00 ∷ 0x00 ∷ 0x00 ∷ 0x09
    -- timestamps: 7 from 0, and 4 from 7
    ∷ 0x00 ∷ 0x00 ∷ 0x00 ∷ 0x00 ∷ 0x00 ∷ 0x00 ∷ 0x00 ∷ 0x07 ∷ 0xFF ∷ 0xFF ∷ 0xFF ∷ 0xFF ∷ 0xFF ∷ 0xFF ∷ 0xFF ∷ 0xFD
    -- bytes
    ∷ 0x0E ∷ 0x04 ∷ 0xAB
    ∷ []

abbrev pub all_bytes : List ℕ → Bool
all_bytes [] = true
all_bytes (x ∷ xs) = ltb x 256 && all_bytes xs

pub all_bytes_lem : (s : List ℕ) → all_bytes s ≡ true → Bytes s
all_bytes_lem [] e i = omega arith
all_bytes_lem (x ∷ xs) e zero = ltb-true x 256 (and_left (ltb x 256) _ e)
all_bytes_lem (x ∷ xs) e (suc i) = all_bytes_lem xs (and_right (ltb x 256) _ e) i

recording_bytes_lem : Bytes recording
recording_bytes_lem = all_bytes_lem recording refl

arrangement_bytes : Bytes arrangement
arrangement_bytes = all_bytes_lem arrangement refl

-- ---- of the definitions

is_arranged_lem : arranged recording ≡ some arrangement
unfolding be be_at is_whole records_from column differenced data_length
is_arranged_lem = refl

is_recorded : recorded arrangement ≡ some recording
unfolding be be_at stand included_total none_longer is_arranged gathered summed records_bytes
is_recorded = refl

pub back : recorded arrangement ≡ some recording
back = there_and_back recording arrangement recording_bytes_lem is_arranged_lem

pub there : arranged recording ≡ some arrangement
there = back_and_there arrangement recording arrangement_bytes is_recorded

-- ---- where each column stands

abbrev pub two : List Record
two = record_of 5 3 0 7 (0x0E ∷ 0x04 ∷ []) ∷ record_of 1 1 9 4 (0xAB ∷ []) ∷ []

is_two : recording_in recording ≡ some (1002, two)
unfolding be_at is_whole records_from
is_two = refl

pub tell_two : PairsTell arrangement (differenced 0 two)
tell_two = each_pair_tells recording arrangement 1002 two recording_bytes_lem is_two is_arranged_lem

-- ---- of what the functions answer and leave, each into a slice with a byte more than is written

-- n bytes 0xAA
abbrev pub slice : ℕ → List ℕ
slice n = replicate n 0xAA

arranges : to_columns_of recording (slice 108) ≡ ok (107 ∷ [])
unfolding be be_at is_whole records_from column differenced data_length
arranges = refl

records : from_columns_of arrangement (slice 68) ≡ ok (67 ∷ [])
unfolding be be_at stand included_total none_longer is_arranged gathered summed records_bytes
records = refl

pub left_back :
    (from_columns_of (take 107 (to_columns_left recording (slice 108))) (slice 68) ≡ ok (67 ∷ []))
    × (from_columns_left (take 107 (to_columns_left recording (slice 108))) (slice 68) ≡ recording ++ (0xAA ∷ []))
left_back = left_there_and_back recording (slice 108) (slice 68) 107 recording_bytes_lem arranges

pub left_there :
    (to_columns_of (take 67 (from_columns_left arrangement (slice 68))) (slice 108) ≡ ok (107 ∷ []))
    × (to_columns_left (take 67 (from_columns_left arrangement (slice 68))) (slice 108) ≡ arrangement ++ (0xAA ∷ []))
left_there = left_back_and_there arrangement (slice 68) (slice 108) 67 arrangement_bytes records
