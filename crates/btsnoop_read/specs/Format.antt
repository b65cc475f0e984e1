-- The bytes of a btsnoop recording: document 02, L1. All numbers are big-endian. Assumes nothing.
use Rattle.std.specs.Prelude.{ℕ, ◌<◌, ◌≤◌, ◌^◌, Bool, ◌||◌, List, [], ◌∷◌, ◌++◌, eqb, length}
use Rattle.big_endian.specs.BigEndian.{be}
use Rattle.big_endian.specs.Laws.{Bytes}

-- A record. Its included length is that of its bytes; the timestamp is the 64 bits of a signed number.
pub record Record : Type 0 where
  pub original : ℕ
  pub flags : ℕ
  pub drops : ℕ
  pub timestamp : ℕ
  pub bytes : List ℕ

abbrev pub record_of : ℕ → ℕ → ℕ → ℕ → List ℕ → Record
record_of original flags drops timestamp bytes =
    record { original = original; flags = flags; drops = drops; timestamp = timestamp; bytes = bytes }

-- "original length, included length, flags, cumulative drops (32 bits each), a signed 64-bit timestamp and the bytes"
abbrev pub record_bytes : Record → List ℕ
record_bytes r =
    be 4 r.original ++ (be 4 (length r.bytes) ++ (be 4 r.flags ++ (be 4 r.drops ++ (be 8 r.timestamp ++ r.bytes))))

unfoldable pub records_bytes : List Record → List ℕ
records_bytes [] = []
records_bytes (r ∷ rs) = record_bytes r ++ records_bytes rs

-- "the eight bytes `btsnoop` and zero", as a number
abbrev pub identification : ℕ
identification = 0x6274736E6F6F7000

-- ".. then version 1 and datalink 1001 or 1002, 32 bits"
abbrev pub header : ℕ → List ℕ
header datalink = be 8 identification ++ (be 4 1 ++ be 4 datalink)

abbrev pub is_datalink : ℕ → Bool
is_datalink d = eqb d 1001 || eqb d 1002

abbrev pub recording_bytes : ℕ → List Record → List ℕ
recording_bytes datalink rs = header datalink ++ records_bytes rs

-- a record that can stand in a recording: each number fits its field, and no more is included than there was
pub record OfForm (r : Record) : Type 0 where
  pub original : r.original < 2 ^ 32
  pub included : length r.bytes ≤ r.original
  pub flags : r.flags < 2 ^ 32
  pub drops : r.drops < 2 ^ 32
  pub timestamp : r.timestamp < 2 ^ 64
  pub bytes : Bytes r.bytes

abbrev pub AllOfForm : List Record → Type 0
AllOfForm [] = Unit {0}
AllOfForm (r ∷ rs) = OfForm r × AllOfForm rs
