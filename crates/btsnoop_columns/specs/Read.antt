-- What stands in an arrangement, by positions, and both directions. That reading is the format's inverse is shown in RoundTrip.
-- Assumes nothing.
use Rattle.std.specs.Prelude.{ℕ, zero, suc, ◌+◌, ◌*◌, ◌/◌, ◌%◌, ◌^◌, Bool, true, cond, ◌&&◌, List, [], ◌∷◌, eqb, leb, length, take, drop}
use Rattle.std.proofs.Math.Option.{Option, none, some}
use Rattle.big_endian.specs.BigEndian.{be_at}
use Rattle.btsnoop_read.specs.Format.{Record, record_of, recording_bytes}
use Rattle.btsnoop_read.specs.Read.{Recording, is_header, datalink_in, recording_in}
use Rattle.btsnoop_columns.specs.Format.{places, with_timestamp, columns_bytes}

-- ---- which bytes are an arrangement

-- the number of records and of their bytes, by the lengths of the first and the last column
abbrev pub count_in : List ℕ → ℕ
count_in c = be_at 4 c 20 / 8

abbrev pub data_in : List ℕ → ℕ
data_in c = be_at 4 c 52

-- these numbers of 32 bits stand from a position on
unfoldable pub stand : List ℕ → ℕ → List ℕ → Bool
stand c at [] = true
stand c at (x ∷ xs) = eqb (be_at 4 c at) x && stand c (at + 4) xs

-- the sum of the k included lengths from a position on
unfoldable pub included_total : List ℕ → ℕ → ℕ → ℕ
included_total c zero l = 0
included_total c (suc k) l = be_at 4 c (l + 4) + included_total c k (l + 8)

-- of k pairs of lengths no included one is above its original
unfoldable pub none_longer : List ℕ → ℕ → ℕ → Bool
none_longer c zero l = true
none_longer c (suc k) l = leb (be_at 4 c (l + 4)) (be_at 4 c l) && none_longer c k (l + 8)

-- not "past 4,294,967,295 bytes"
abbrev pub longest : ℕ
longest = 4294967295

abbrev pub size_fits : List ℕ → Bool
size_fits c = leb (length c) longest

-- the pairs are those of that many records and bytes, and the columns reach to the end
abbrev pub pairs_stand : List ℕ → Bool
pairs_stand c = stand c 16 (places (count_in c) (data_in c))

abbrev pub length_is : List ℕ → Bool
length_is c = eqb (length c) (56 + 24 * count_in c + data_in c)

-- the included lengths make the bytes
abbrev pub bytes_agree : List ℕ → Bool
bytes_agree c = eqb (included_total c (count_in c) 56) (data_in c)

-- 21 where it is false: "pairs that break this, columns whose counts or bytes disagree, an included length above its original, or
-- an arrangement past 4,294,967,295 bytes". One number of records settles four columns' lengths, so that counts cannot disagree
-- where the pairs stand.
unfoldable pub is_arranged : List ℕ → Bool
is_arranged c = length_is c && (pairs_stand c && (bytes_agree c && (none_longer c (count_in c) 56 && size_fits c)))

-- ---- the records of an arrangement

-- the k records whose lengths, flags, drops, timestamps and bytes stand at these positions
unfoldable pub gathered : List ℕ → ℕ → ℕ → ℕ → ℕ → ℕ → ℕ → List Record
gathered c zero l f d t b = []
gathered c (suc k) l f d t b =
    record_of (be_at 4 c l) (be_at 4 c f) (be_at 4 c d) (be_at 8 c t) (take (be_at 4 c (l + 4)) (drop b c))
    ∷ gathered c k (l + 8) (f + 4) (d + 4) (t + 8) (b + be_at 4 c (l + 4))

abbrev pub gathered_in : List ℕ → List Record
gathered_in c = gathered c (count_in c) 56 (56 + 8 * count_in c) (56 + 12 * count_in c) (56 + 16 * count_in c) (56 + 24 * count_in c)

-- the timestamps from their differences
unfoldable pub summed : ℕ → List Record → List Record
summed before [] = []
summed before (r ∷ rs) = with_timestamp r ((before + r.timestamp) % 2 ^ 64) ∷ summed ((before + r.timestamp) % 2 ^ 64) rs

-- where neither 11 nor 21 is given
abbrev pub columns_in : List ℕ → Option Recording
columns_in c = cond (is_header c) (cond (is_arranged c) (some (datalink_in c, summed 0 (gathered_in c))) none) none

-- ---- there and back

abbrev pub sized : List ℕ → Option (List ℕ)
sized c = cond (size_fits c) (some c) none

abbrev pub arranged_as : Option Recording → Option (List ℕ)
arranged_as none = none
arranged_as (some (d, rs)) = sized (columns_bytes d rs)

-- a recording by column, where none of 11, 12 and 21 is given
abbrev pub arranged : List ℕ → Option (List ℕ)
arranged s = arranged_as (recording_in s)

abbrev pub recorded_as : Option Recording → Option (List ℕ)
recorded_as none = none
recorded_as (some (d, rs)) = some (recording_bytes d rs)

-- the recording of an arrangement, where neither 11 nor 21 is given
abbrev pub recorded : List ℕ → Option (List ℕ)
recorded c = recorded_as (columns_in c)
