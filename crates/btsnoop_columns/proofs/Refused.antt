-- Files that are refused: each part of `ColumnsRefusals` applied to one, with every hypothesis met. Assumes nothing.
use Rattle.std.specs.Prelude.{ℕ, ◌<◌, ◌≡◌, refl, Bool, true, ◌&&◌, List, [], ◌++◌, length, set, take, replicate}
use Rattle.std.proofs.Math.Path.{ap}
use Rattle.std.proofs.Common.{arith, le-leb}
use Rattle.std.proofs.lemmas.List.{length-replicate}
use Rattle.model.specs.Answer.{Refusal, refusal}
use Rattle.big_endian.specs.BigEndian.{be, be_at}
use Rattle.btsnoop_read.specs.Format.{records_bytes}
use Rattle.btsnoop_read.specs.Read.{is_whole, records_from, is_header}
use Rattle.btsnoop_columns.specs.Format.{column, differenced, data_length}
use Rattle.btsnoop_columns.specs.Read.{stand, included_total, none_longer, is_arranged, gathered, summed}
use Rattle.btsnoop_columns.specs.Answer.{to_columns_of, to_columns_left, from_columns_of, from_columns_left}
use Rattle.btsnoop_columns.proofs.Refusals.{columns_refusals}
use Rattle.btsnoop_columns.proofs.Cases.{recording, arrangement, slice}

-- datalink 1003
pub to_header : to_columns_of (set recording 15 0xEB) (slice 108) ≡ refusal Refusal.Header
unfolding be_at
to_header = (columns_refusals (set recording 15 0xEB) (slice 108)).0.header refl

-- a byte short, into no room
pub to_records : to_columns_of (take 66 recording) [] ≡ refusal Refusal.Record
unfolding be be_at is_whole records_from
to_records = (columns_refusals (take 66 recording) []).0.records refl refl

-- a slice that is a byte short
pub to_kept : to_columns_left recording (slice 106) ≡ slice 106
unfolding be be_at is_whole records_from column differenced data_length
to_kept = (columns_refusals recording (slice 106)).0.kept (λ e. absurd (omega (arith, e)))

pub from_header : from_columns_of (set arrangement 15 0xEB) (slice 68) ≡ refusal Refusal.Header
unfolding be_at
from_header = (columns_refusals (set arrangement 15 0xEB) (slice 68)).1.header refl

-- a byte short, into no room
pub from_columns : from_columns_of (take 106 arrangement) [] ≡ refusal Refusal.Columns
unfolding be_at stand included_total none_longer is_arranged
from_columns = (columns_refusals (take 106 arrangement) []).1.columns refl refl

pub from_kept : from_columns_left arrangement (slice 66) ≡ slice 66
unfolding be be_at stand included_total none_longer is_arranged gathered summed records_bytes
from_kept = (columns_refusals arrangement (slice 66)).1.kept (λ e. absurd (omega (arith, e)))

-- a header and k zeros, more than 4,294,967,295 bytes
module _ (k : ℕ) (out : List ℕ) (h : 4294967279 < k) where
  abbrev too_long : List ℕ
  too_long = take 16 arrangement ++ replicate k 0

  has_header : is_header too_long ≡ true
  unfolding be_at
  has_header = ap (λ (b : Bool). b && true) (le-leb 16 (length too_long) (omega arith))

  pub from_long : from_columns_of too_long out ≡ refusal Refusal.Columns
  from_long = (columns_refusals too_long out).1.long has_header (omega (arith, length-replicate {A = ℕ} k 0))
