-- What the two functions answer, and the bytes that they leave. Assumes nothing.
use Rattle.std.specs.Prelude.{ℕ, true, cond, List}
use Rattle.std.proofs.Math.Option.{Option, none, some}
use Rattle.model.specs.Answer.{Refusal, Reply, refusal}
use Rattle.wire.specs.Wire.{writing, written}
use Rattle.btsnoop_read.specs.Read.{is_header, records_in}
use Rattle.btsnoop_columns.specs.Read.{arranged, recorded}

-- 21 where there is nothing to write, then 10; else the number of bytes
abbrev pub writing_of : Option (List ℕ) → List ℕ → Reply
writing_of none out = refusal Refusal.Columns
writing_of (some message) out = writing true message out

-- on refusal every byte is kept, and else every one past the message
abbrev pub written_of : Option (List ℕ) → List ℕ → List ℕ
written_of none out = out
written_of (some message) out = written true message out

-- "21, after 11 and 12 and before 10 for a short output"
abbrev pub to_columns_of : List ℕ → List ℕ → Reply
to_columns_of s out =
    cond (is_header s) (cond (records_in s).whole (writing_of (arranged s) out) (refusal Refusal.Record)) (refusal Refusal.Header)

abbrev pub to_columns_left : List ℕ → List ℕ → List ℕ
to_columns_left s out = written_of (arranged s) out

-- the same without 12: an arrangement has no record that is cut short, and an included length above its original is 21
abbrev pub from_columns_of : List ℕ → List ℕ → Reply
from_columns_of c out = cond (is_header c) (writing_of (recorded c) out) (refusal Refusal.Header)

abbrev pub from_columns_left : List ℕ → List ℕ → List ℕ
from_columns_left c out = written_of (recorded c) out
