-- A recording by column: document 02, L12. All numbers are big-endian. Assumes nothing.
use Rattle.std.specs.Prelude.{ℕ, ◌+◌, ◌-◌, ◌*◌, ◌%◌, ◌^◌, List, [], ◌∷◌, ◌++◌, length}
use Rattle.big_endian.specs.BigEndian.{be}
use Rattle.btsnoop_read.specs.Format.{Record, header}

-- ---- the five columns

-- "all lengths together (original, included, record by record), then flags, drops, timestamps, then bytes": what each column has
-- of a record
abbrev pub lengths : Record → List ℕ
lengths r = be 4 r.original ++ be 4 (length r.bytes)

abbrev pub flags : Record → List ℕ
flags r = be 4 r.flags

abbrev pub drops : Record → List ℕ
drops r = be 4 r.drops

abbrev pub timestamp : Record → List ℕ
timestamp r = be 8 r.timestamp

abbrev pub bytes : Record → List ℕ
bytes r = r.bytes

unfoldable pub column : (Record → List ℕ) → List Record → List ℕ
column cell [] = []
column cell (r ∷ rs) = cell r ++ column cell rs

abbrev pub columns : List Record → List ℕ
columns rs = column lengths rs ++ (column flags rs ++ (column drops rs ++ (column timestamp rs ++ column bytes rs)))

-- ---- timestamps as differences

abbrev pub with_timestamp : Record → ℕ → Record
with_timestamp r t = record { original = r.original; flags = r.flags; drops = r.drops; timestamp = t; bytes = r.bytes }

-- "the difference from the one before, wrapping in 64 bits"
abbrev pub difference : ℕ → ℕ → ℕ
difference t before = (t + (2 ^ 64 - before)) % 2 ^ 64

unfoldable pub differenced : ℕ → List Record → List Record
differenced before [] = []
differenced before (r ∷ rs) = with_timestamp r (difference r.timestamp before) ∷ differenced r.timestamp rs

-- ---- the arrangement

-- the bytes in all records
unfoldable pub data_length : List Record → ℕ
data_length [] = 0
data_length (r ∷ rs) = length r.bytes + data_length rs

-- "five pairs of offset and length .., one a column; the columns follow from byte 56 in that order, with no gaps, to the end": of n
-- records with b bytes
abbrev pub places : ℕ → ℕ → List ℕ
places n b =
    56 ∷ (8 * n) ∷ (56 + 8 * n) ∷ (4 * n) ∷ (56 + 12 * n) ∷ (4 * n) ∷ (56 + 16 * n) ∷ (8 * n) ∷ (56 + 24 * n) ∷ b ∷ []

-- numbers of 32 bits, one after another
abbrev pub numbers : List ℕ → List ℕ
numbers [] = []
numbers (x ∷ xs) = be 4 x ++ numbers xs

-- "Right after L1's 16-byte header stand five pairs"; timestamps are kept as differences, "the first from 0"
abbrev pub columns_bytes : ℕ → List Record → List ℕ
columns_bytes datalink rs = header datalink ++ (numbers (places (length rs) (data_length rs)) ++ columns (differenced 0 rs))
