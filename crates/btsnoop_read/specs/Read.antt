-- What stands in a list of bytes, by positions. That this is the format's inverse is shown in Inverse. Assumes nothing.
use Rattle.std.specs.Prelude.{ℕ, zero, suc, ◌+◌, ◌-◌, Bool, true, false, cond, ◌&&◌, List, [], ◌∷◌, eqb, leb, ltb, length, take, drop}
use Rattle.std.proofs.Math.Option.{Option, none, some}
use Rattle.big_endian.specs.BigEndian.{be_at}
use Rattle.btsnoop_read.specs.declared.RecordHead.{RecordHead}
use Rattle.btsnoop_read.specs.Format.{Record, identification, is_datalink}

-- 11 where it is false
abbrev pub is_header : List ℕ → Bool
is_header s =
    leb 16 (length s) && (eqb (be_at 8 s 0) identification && (eqb (be_at 4 s 8) 1 && is_datalink (be_at 4 s 12)))

abbrev pub datalink_in : List ℕ → ℕ
datalink_in s = be_at 4 s 12

-- ---- the record at a position

-- its numbers, as the code has them
abbrev pub head_at : List ℕ → ℕ → RecordHead
head_at s at =
    record {
      original = be_at 4 s at;
      included = be_at 4 s (at + 4);
      flags = be_at 4 s (at + 8);
      drops = be_at 4 s (at + 12);
      timestamp = be_at 8 s (at + 16);
    }

abbrev pub original_at : List ℕ → ℕ → ℕ
original_at s at = (head_at s at).original

abbrev pub included_at : List ℕ → ℕ → ℕ
included_at s at = (head_at s at).included

abbrev pub record_at : List ℕ → ℕ → Record
record_at s at =
    record {
      original = (head_at s at).original;
      flags = (head_at s at).flags;
      drops = (head_at s at).drops;
      timestamp = (head_at s at).timestamp;
      bytes = take (included_at s at) (drop (at + 24) s);
    }

-- the position behind it
abbrev pub next_at : List ℕ → ℕ → ℕ
next_at s at = at + 24 + included_at s at

-- neither "cut short" nor "longer included than original": 12 where it is false
unfoldable pub is_whole : List ℕ → ℕ → Bool
is_whole s at = leb (at + 24) (length s) && (leb (next_at s at) (length s) && leb (included_at s at) (original_at s at))

-- ---- the records from a position on

-- those before the first that is not whole, and whether there is none such
pub record Records : Type 0 where
  pub records : List Record
  pub whole : Bool

abbrev pub ahead : Record → Records → Records
ahead r w = record { records = r ∷ w.records; whole = w.whole }

-- at most n of them
unfoldable pub records_from : List ℕ → ℕ → ℕ → Records
records_from s zero at = record { records = []; whole = true }
records_from s (suc n) at =
    cond (ltb at (length s))
    (cond (is_whole s at) (ahead (record_at s at) (records_from s n (next_at s at))) (record { records = []; whole = false }))
    (record { records = []; whole = true })

-- a record is never empty, so there are no more than bytes
abbrev pub records_at : List ℕ → ℕ → Records
records_at s at = records_from s (length s - at) at

-- the records of a recording, behind its header
abbrev pub records_in : List ℕ → Records
records_in s = records_at s 16

-- ---- a whole recording: its datalink and its records, where neither 11 nor 12 is given

abbrev pub Recording : Type 0
Recording = ℕ × List Record

abbrev pub recording_in : List ℕ → Option Recording
recording_in s = cond (is_header s) (cond (records_in s).whole (some (datalink_in s, (records_in s).records)) none) none

-- ---- record by record, by any step on any state

abbrev pub folded : {A : Type 0} → (A → Record → A) → A → List Record → A
folded step a [] = a
folded step a (r ∷ rs) = folded step (step a r) rs

-- the state behind the records, and whether all were whole
abbrev pub told : {A : Type 0} → (A → Record → A) → A → Records → A × Bool
told step a w = (folded step a w.records, w.whole)
