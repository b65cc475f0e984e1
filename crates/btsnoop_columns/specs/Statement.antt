-- "Going there and back gives the same bytes for every file not refused, and the other way for every arrangement that is accepted":
-- of the definitions, and of what the two functions answer and leave; where each column stands; where the limit stands; and what is
-- refused, in which order. Proved in RoundTrip, Left and Refusals; Cases has a recording and an arrangement for the first five, Limit
-- files for the sixth, Refused files for the last. Assumes nothing.
use Rattle.std.specs.Prelude.{ℕ, ◌+◌, ◌*◌, ◌≤◌, ◌<◌, ◌≡◌, ◌≢◌, true, false, List, [], ◌∷◌, length, take, drop}
use Rattle.std.proofs.Math.Option.{some}
use Rattle.model.specs.Answer.{Refusal, ok, refusal}
use Rattle.wire.specs.Wire.{writing, written}
use Rattle.big_endian.specs.BigEndian.{be_at}
use Rattle.big_endian.specs.Laws.{Bytes}
use Rattle.btsnoop_read.specs.Format.{Record}
use Rattle.btsnoop_read.specs.Read.{is_header, records_in, recording_in}
use Rattle.btsnoop_columns.specs.Format.{lengths, flags, drops, timestamp, bytes, column, differenced, columns_bytes}
use Rattle.btsnoop_columns.specs.Read.{is_arranged, arranged, recorded}
use Rattle.btsnoop_columns.specs.Answer.{to_columns_of, to_columns_left, from_columns_of, from_columns_left}

abbrev pub ThereAndBack : Type 0
ThereAndBack = (s c : List ℕ) → Bytes s → arranged s ≡ some c → recorded c ≡ some s

abbrev pub BackAndThere : Type 0
BackAndThere = (c s : List ℕ) → Bytes c → recorded c ≡ some s → arranged s ≡ some c

-- where `to_columns` answers 0 and n, `from_columns` makes of those n bytes the file: it stands at the start of any slice that has
-- room for it, and else 10 is answered
abbrev pub LeftThereAndBack : Type 0
LeftThereAndBack =
    (s out next : List ℕ) (n : ℕ) → Bytes s → to_columns_of s out ≡ ok (n ∷ [])
    → (from_columns_of (take n (to_columns_left s out)) next ≡ writing true s next)
    × (from_columns_left (take n (to_columns_left s out)) next ≡ written true s next)

abbrev pub LeftBackAndThere : Type 0
LeftBackAndThere =
    (c out next : List ℕ) (n : ℕ) → Bytes c → from_columns_of c out ≡ ok (n ∷ [])
    → (to_columns_of (take n (from_columns_left c out)) next ≡ writing true c next)
    × (to_columns_left (take n (from_columns_left c out)) next ≡ written true c next)

-- the bytes of which pair k tells: as many as it says, from its offset on
abbrev pub told : List ℕ → ℕ → List ℕ
told c k = take (be_at 4 c (20 + 8 * k)) (drop (be_at 4 c (16 + 8 * k)) c)

-- "five pairs of offset and length .., one a column"
pub record PairsTell (c : List ℕ) (rs : List Record) : Type 0 where
  pub of_lengths : told c 0 ≡ column lengths rs
  pub of_flags : told c 1 ≡ column flags rs
  pub of_drops : told c 2 ≡ column drops rs
  pub of_timestamps : told c 3 ≡ column timestamp rs
  pub of_bytes : told c 4 ≡ column bytes rs

abbrev pub EachPairTells : Type 0
EachPairTells =
    (s c : List ℕ) (d : ℕ) (rs : List Record) → Bytes s → recording_in s ≡ some (d, rs) → arranged s ≡ some c
    → PairsTell c (differenced 0 rs)

-- "an arrangement past 4,294,967,295 bytes", which is 40 bytes longer than the file: on one side the arrangement is written, on the
-- other 21 is answered
abbrev pub SizeLimit : Type 0
SizeLimit =
    (s out : List ℕ) (d : ℕ) (rs : List Record) → Bytes s → recording_in s ≡ some (d, rs)
    → (length s + 40 ≤ 4294967295
    → (to_columns_of s out ≡ writing true (columns_bytes d rs) out) × (to_columns_left s out ≡ written true (columns_bytes d rs) out))
    × (4294967295 < length s + 40 → to_columns_of s out ≡ refusal Refusal.Columns)

-- "21, after 11 and 12 and before 10 for a short output": of every file, of any length, and of every slice
pub record ToColumnsRefused (s out : List ℕ) : Type 0 where
  pub header : is_header s ≡ false → to_columns_of s out ≡ refusal Refusal.Header
  pub records : is_header s ≡ true → (records_in s).whole ≡ false → to_columns_of s out ≡ refusal Refusal.Record
  pub kept : (to_columns_of s out).number ≢ 0 → to_columns_left s out ≡ out

pub record FromColumnsRefused (c out : List ℕ) : Type 0 where
  pub header : is_header c ≡ false → from_columns_of c out ≡ refusal Refusal.Header
  pub columns : is_header c ≡ true → is_arranged c ≡ false → from_columns_of c out ≡ refusal Refusal.Columns
  pub long : is_header c ≡ true → 4294967295 < length c → from_columns_of c out ≡ refusal Refusal.Columns
  pub kept : (from_columns_of c out).number ≢ 0 → from_columns_left c out ≡ out

abbrev pub ColumnsRefusals : Type 0
ColumnsRefusals = (f out : List ℕ) → ToColumnsRefused f out × FromColumnsRefused f out
