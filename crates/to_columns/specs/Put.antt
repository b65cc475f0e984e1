-- The columns put one after another: what the proofs of `to_columns` cite. Assumes nothing.
use Rattle.std.specs.Prelude.{◌≡◌, ℕ, ◌+◌, ◌-◌, ◌*◌, ◌<◌, ◌≤◌, Bool, true, false, Ok, Err, List, [], ◌∷◌, ◌++◌, length, take, drop, refl, ltb}
use Rattle.std.proofs.Common.{sym, ◌∙◌, append_assoc, arith, length-append, ltb-true, ltb-false}
use Rattle.std.proofs.Math.Path.{ap}
use Rattle.std.proofs.Math.Option.{Option, none, some}
use Rattle.std.proofs.lemmas.List.Edits.{sets}
use Rattle.model.specs.Answer.{Refusal, ok}
use Rattle.big_endian.specs.BigEndian.{be, be_at}
use Rattle.big_endian.specs.Laws.{Bytes, length_be}
use Rattle.big_endian_write.specs.Laws.{put_behind, number_behind}
use Rattle.btsnoop_read.specs.declared.RecordHead.{RecordHead}
use Rattle.btsnoop_read.specs.Format.{Record, header}
use Rattle.btsnoop_read.specs.Read.{Records, is_header, datalink_in, record_at, next_at, is_whole, records_at, records_in, recording_in}
use Rattle.btsnoop_read.specs.Read.{head_at}
use Rattle.btsnoop_read.specs.Laws.{Found, records_next, records_cut, records_end, part_is}
use Rattle.to_columns.specs.declared.Cell.{Cell}
use Rattle.to_columns.specs.declared.Cell.TheVariants as cell
use Rattle.btsnoop_columns.specs.Format.{lengths, flags, drops, timestamp, bytes, column, with_timestamp, difference, differenced, data_length, places, numbers, columns, columns_bytes}
use Rattle.btsnoop_columns.proofs.Left.{wrote, unwritten, to_columns_past}
use Rattle.btsnoop_columns.specs.Answer.{writing_of, written_of, to_columns_of, to_columns_left}
use Rattle.to_columns.specs.Answer.{to_columns_reply}
use Rattle.to_columns.specs.Cells.{cell_of, cell_record}
use Rattle.btsnoop_columns.specs.Read.{arranged}
use Rattle.btsnoop_columns.proofs.Inverse.{length_numbers}
use Rattle.btsnoop_columns.proofs.RoundTrip.{length_recording}
use Rattle.btsnoop_columns.proofs.Accepted.{columns_size, within_limit, past_limit}
use Rattle.btsnoop_put.specs.Put.{length_header}
use Rattle.btsnoop_read.proofs.Inverse.{accepted}

-- ---- a cell

-- what was put is the cell
pub put_as : (x y : Cell) (r : Record) (out next : List ℕ) (at n : ℕ) → x ≡ y → next ≡ sets out at (cell_of y r) → n ≡ length (cell_of y r)
    → (next ≡ sets out at (cell_of x r)) × (at + n ≡ at + length (cell_of x r))
put_as x y r out next at n e f g = (rw e f, rw e (ap (λ (k : ℕ). at + k) g))

pub lengths_put : (a b : ℕ) (out o1 o2 : List ℕ) (at : ℕ) → o1 ≡ sets out at (be 4 a) → o2 ≡ sets o1 (at + 4) (be 4 b)
    → o2 ≡ sets out at (be 4 a ++ be 4 b)
lengths_put a b out o1 o2 at e f = f ∙ sym (number_behind 4 a (be 4 b) out o1 at (at + 4) e refl)

pub length_two : (a b : ℕ) → 8 ≡ length (be 4 a ++ be 4 b)
length_two a b = simp (length-append, length_be)

-- ---- a record further

-- what a column has of the records from a position on
abbrev pub cells_from : Cell → List ℕ → ℕ → ℕ → List ℕ
cells_from x s before i = column (cell_of x) (differenced before (records_at s i).records)

module _ (s : List ℕ) (i : ℕ) (head : RecordHead) (f : Found s i head) where
  cells_next : (x : Cell) (before : ℕ)
      → cells_from x s before i
      ≡ cell_of x (with_timestamp (record_at s i) (difference (record_at s i).timestamp before)) ++ cells_from x s (record_at s i).timestamp (next_at s i)
  unfolding column differenced
  cells_next x before =
      ap (λ (r : Records). column (cell_of x) (differenced before r.records)) (records_next s i (omega (arith, f.within)) f.whole)

  -- by the numbers and the part that the code reads
  cells_head : (x : Cell) (before : ℕ)
      → cells_from x s before i
      ≡ cell_of x (cell_record head before (take (i + 24 + head.included - (i + 24)) (drop (i + 24) s)))
      ++ cells_from x s head.timestamp (i + 24 + head.included)
  cells_head x before =
      rw f.head
      (cells_next x before
      ∙ ap (λ (b : List ℕ). cell_of x (cell_record (head_at s i) before b) ++ cells_from x s (be_at 8 s (i + 16)) (next_at s i)) (sym (part_is s i refl)))

  pub cells_length : (x : Cell) (before : ℕ)
      → length (cells_from x s before i)
      ≡ length (cell_of x (cell_record head before (take (i + 24 + head.included - (i + 24)) (drop (i + 24) s))))
      + length (cells_from x s head.timestamp (i + 24 + head.included))
  cells_length x before = ap length (cells_head x before) ∙ length-append (cell_of x (cell_record head before _)) _

  pub cells_put : (x : Cell) (before : ℕ) (out next : List ℕ) (at to : ℕ)
      → next ≡ sets out at (cell_of x (cell_record head before (take (i + 24 + head.included - (i + 24)) (drop (i + 24) s))))
      → to ≡ at + length (cell_of x (cell_record head before (take (i + 24 + head.included - (i + 24)) (drop (i + 24) s))))
      → sets out at (cells_from x s before i) ≡ sets next to (cells_from x s head.timestamp (i + 24 + head.included))
  cells_put x before out next at to p q =
      let l = cell_of x (cell_record head before (take (i + 24 + head.included - (i + 24)) (drop (i + 24) s))) in
      ap (sets out at) (cells_head x before)
      ∙ put_behind l (cells_from x s head.timestamp (i + 24 + head.included)) out next at to p q

-- behind the last whole record
pub cells_end : (x : Cell) (s : List ℕ) (before i : ℕ) → is_whole s i ≡ false → cells_from x s before i ≡ []
unfolding column differenced
cells_end x s before i e = go (ltb i (length s)) refl
  where
    go : (b : Bool) → ltb i (length s) ≡ b → cells_from x s before i ≡ []
    go true h = ap (λ (r : Records). column (cell_of x) (differenced before r.records)) (records_cut s i (ltb-true i (length s) h) e)
    go false h = ap (λ (r : Records). column (cell_of x) (differenced before r.records)) (records_end s i (ltb-false i (length s) h))

-- ---- the pairs

pair_behind : (x y : ℕ) (q out next : List ℕ) (at to : ℕ) → next ≡ sets out at (be 4 x ++ be 4 y) → to ≡ at + 8
    → sets out at (be 4 x ++ (be 4 y ++ q)) ≡ sets next to q
pair_behind x y q out next at to e p =
    ap (sets out at) (sym (append_assoc (be 4 x) (be 4 y) q)) ∙ put_behind (be 4 x ++ be 4 y) q out next at to e (omega (arith, length_two x y))

pub places_put : (n b : ℕ) (out o1 o2 o3 o4 o5 : List ℕ)
    → o1 ≡ sets out 16 (be 4 56 ++ be 4 (8 * n))
    → o2 ≡ sets o1 24 (be 4 (56 + 8 * n) ++ be 4 (4 * n))
    → o3 ≡ sets o2 32 (be 4 (56 + 12 * n) ++ be 4 (4 * n))
    → o4 ≡ sets o3 40 (be 4 (56 + 16 * n) ++ be 4 (8 * n))
    → o5 ≡ sets o4 48 (be 4 (56 + 24 * n) ++ be 4 b)
    → o5 ≡ sets out 16 (numbers (places n b))
places_put n b out o1 o2 o3 o4 o5 e1 e2 e3 e4 e5 =
    sym (pair_behind 56 (8 * n) _ out o1 16 24 e1 refl
    ∙ pair_behind (56 + 8 * n) (4 * n) _ o1 o2 24 32 e2 refl
    ∙ pair_behind (56 + 12 * n) (4 * n) _ o2 o3 32 40 e3 refl
    ∙ pair_behind (56 + 16 * n) (8 * n) _ o3 o4 40 48 e4 refl
    ∙ pair_behind (56 + 24 * n) b [] o4 o5 48 56 e5 refl)

-- ---- the whole

module _ (s out : List ℕ) where
  pub no_header : is_header s ≡ false → (to_columns_reply (Err Refusal.Header) ≡ to_columns_of s out) × (out ≡ to_columns_left s out)
  no_header h = (rw h, rw h)

  pub cut_record : is_header s ≡ true → (records_in s).whole ≡ false → (to_columns_reply (Err Refusal.Record) ≡ to_columns_of s out) × (out ≡ to_columns_left s out)
  cut_record h w = (rw (h, w), rw (h, w))

module _ (s : List ℕ) (y : Bytes s) (h : is_header s ≡ true) (w : (records_in s).whole ≡ true) where
  abbrev d : ℕ
  d = datalink_in s

  abbrev rs : List Record
  rs = (records_in s).records

  is_recording : recording_in s ≡ some (d, rs)
  is_recording = rw (h, w)

  pub size_in : length s ≡ 16 + 24 * length rs + data_length rs
  size_in = let a = accepted s d rs y is_recording in omega (arith, length_recording d rs a.1, ap length a.0)

  pub cells_size :
      56 + (length (cells_from cell.Lengths s 0 16)
      + (length (cells_from cell.Flags s 0 16)
      + (length (cells_from cell.Drops s 0 16) + (length (cells_from cell.Timestamps s 0 16) + length (cells_from cell.Bytes s 0 16)))))
      ≡ length s + 40
  cells_size =
      let g = differenced 0 rs in
      omega (
        arith,
        columns_size s d rs y is_recording,
        length_header d,
        length-append (header d) (numbers (places (length rs) (data_length rs)) ++ columns g),
        length-append (numbers (places (length rs) (data_length rs))) (columns g),
        length_numbers (places (length rs) (data_length rs)),
        length-append (column lengths g) (column flags g ++ (column drops g ++ (column timestamp g ++ column bytes g))),
        length-append (column flags g) (column drops g ++ (column timestamp g ++ column bytes g)),
        length-append (column drops g) (column timestamp g ++ column bytes g),
        length-append (column timestamp g) (column bytes g),
      )

  past : (out : List ℕ) (o : Option (List ℕ)) → arranged s ≡ o → (writing_of o out ≡ to_columns_of s out) × (written_of o out ≡ to_columns_left s out)
  past out o e = (sym (to_columns_past s out o h w e), ap (λ (x : Option (List ℕ)). written_of x out) (sym e))

  pub too_long : (out : List ℕ) → 4294967255 < length s → (to_columns_reply (Err Refusal.Columns) ≡ to_columns_of s out) × (out ≡ to_columns_left s out)
  too_long out k = past out none (past_limit s d rs y is_recording k)

  pub no_room : (out : List ℕ) → length s ≤ 4294967255 → length out < length s + 40
      → (to_columns_reply (Err Refusal.Space) ≡ to_columns_of s out) × (out ≡ to_columns_left s out)
  no_room out k l =
      let p = past out (some (columns_bytes d rs)) (within_limit s d rs y is_recording k) in
      let u = unwritten (columns_bytes d rs) out (omega (arith, columns_size s d rs y is_recording)) in
      (u.0 ∙ p.0, u.1 ∙ p.1)

  -- the bytes, part by part
  pub all_put : (out o1 o2 o3 o4 o5 o6 o7 : List ℕ) (p1 p2 p3 p4 : ℕ)
      → o1 ≡ sets out 0 (header d)
      → o2 ≡ sets o1 16 (numbers (places (length rs) (data_length rs)))
      → o3 ≡ sets o2 56 (cells_from cell.Lengths s 0 16) → p1 ≡ 56 + length (cells_from cell.Lengths s 0 16)
      → o4 ≡ sets o3 p1 (cells_from cell.Flags s 0 16) → p2 ≡ p1 + length (cells_from cell.Flags s 0 16)
      → o5 ≡ sets o4 p2 (cells_from cell.Drops s 0 16) → p3 ≡ p2 + length (cells_from cell.Drops s 0 16)
      → o6 ≡ sets o5 p3 (cells_from cell.Timestamps s 0 16) → p4 ≡ p3 + length (cells_from cell.Timestamps s 0 16)
      → o7 ≡ sets o6 p4 (cells_from cell.Bytes s 0 16)
      → o7 ≡ sets out 0 (columns_bytes d rs)
  all_put out o1 o2 o3 o4 o5 o6 o7 p1 p2 p3 p4 e1 e2 e3 q1 e4 q2 e5 q3 e6 q4 e7 =
      let g = differenced 0 rs in
      let n = numbers (places (length rs) (data_length rs)) in
      sym (put_behind (header d) (n ++ columns g) out o1 0 16 e1 (omega (arith, length_header d))
      ∙ put_behind n (columns g) o1 o2 16 56 e2 (omega (arith, length_numbers (places (length rs) (data_length rs))))
      ∙ put_behind (column lengths g) (column flags g ++ (column drops g ++ (column timestamp g ++ column bytes g))) o2 o3 56 p1 e3 q1
      ∙ put_behind (column flags g) (column drops g ++ (column timestamp g ++ column bytes g)) o3 o4 p1 p2 e4 q2
      ∙ put_behind (column drops g) (column timestamp g ++ column bytes g) o4 o5 p2 p3 e5 q3
      ∙ put_behind (column timestamp g) (column bytes g) o5 o6 p3 p4 e6 q4
      ∙ sym e7)

  pub all_written : (out now : List ℕ) → length s ≤ 4294967255 → length s + 40 ≤ length out → now ≡ sets out 0 (columns_bytes d rs)
      → (to_columns_reply (Ok (length s + 40)) ≡ to_columns_of s out) × (now ≡ to_columns_left s out)
  all_written out now k l e =
      let n = columns_size s d rs y is_recording in
      let p = past out (some (columns_bytes d rs)) (within_limit s d rs y is_recording k) in
      let u = wrote (columns_bytes d rs) out now (omega (arith, n)) e in
      (ap (λ (x : ℕ). ok (x ∷ [])) (sym n) ∙ u.0 ∙ p.0, u.1 ∙ p.1)
