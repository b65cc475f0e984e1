-- Columns that are written are read, and those that are read are written, column by column. Assumes nothing.
use Prim.Native.Nat.{ℕ, zero, suc, ◌+◌, ◌-◌, ◌*◌, ◌%◌, ◌<◌, ◌≤◌, ◌^◌}
use Rattle.std.specs.Prelude.{◌≡◌, Bool, true, false, ◌&&◌, leb, ltb, eqb, get_or}
use Rattle.std.proofs.Math.Path.{refl, sym, ap}
use Rattle.std.proofs.Common.{◌∙◌, add-zero, length-append, length-drop, drop_of_length-le, drop_at, drop-drop, length-take-le, get_or-take, get_or-drop}
use mathlib.Core.List.{List, [], ◌∷◌, ◌++◌, append_assoc}
use native.Mathlib.Omega.{arith}
use Rattle.std.proofs.Math.Nat.{mul-suc}
use borrow.Author.Tests.{ltb-true, ltb-false, le-leb, leb-true, eq-eqb, eqb-true}
use Rattle.std.proofs.Math.ListN.{length, take, drop, take-append-drop, get_or-eq_default}
use Rattle.std.proofs.Math.Seq.{take-append_seam}
use Rattle.model.proofs.Laws.{and_left, and_right}
use Rattle.big_endian.specs.BigEndian.{be, be_at}
use Rattle.big_endian.specs.Laws.{Bytes, length_be, below, read_back, skip, put_back}
use Rattle.btsnoop_read.specs.Format.{Record, record_of, OfForm, AllOfForm}
use Rattle.btsnoop_columns.specs.Format.{lengths, flags, drops, timestamp, bytes, column, with_timestamp, difference, differenced, data_length, numbers}
use Rattle.btsnoop_columns.specs.Read.{gathered, included_total, none_longer, stand, summed}

pub and_both : {a b : Bool} → a ≡ true → b ≡ true → (a && b) ≡ true
and_both {a} {b} e f = rw (e, f)

-- ---- timestamps and their differences

module _ (r : Record) (t : ℕ) where
  pub form_timestamp : OfForm r → t < 2 ^ 64 → OfForm (with_timestamp r t)
  form_timestamp f h =
      record { original = f.original; included = f.included; flags = f.flags; drops = f.drops; timestamp = h; bytes = f.bytes }

wrapped : (x : ℕ) → x % 2 ^ 64 < 2 ^ 64
wrapped x = omega arith

pub form_differenced : (before : ℕ) (rs : List Record) → AllOfForm rs → AllOfForm (differenced before rs)
unfolding differenced
form_differenced before [] f = tt
form_differenced before (r ∷ rs) f =
    (form_timestamp r (difference r.timestamp before) f.0 (wrapped _), form_differenced r.timestamp rs f.1)

pub form_summed : (before : ℕ) (rs : List Record) → AllOfForm rs → AllOfForm (summed before rs)
unfolding summed
form_summed before [] f = tt
form_summed before (r ∷ rs) f =
    (form_timestamp r ((before + r.timestamp) % 2 ^ 64) f.0 (wrapped _), form_summed ((before + r.timestamp) % 2 ^ 64) rs f.1)

there : (t before : ℕ) → t < 2 ^ 64 → before < 2 ^ 64 → (before + difference t before) % 2 ^ 64 ≡ t
there t before h k = omega arith

back : (t before : ℕ) → t < 2 ^ 64 → before < 2 ^ 64 → difference ((before + t) % 2 ^ 64) before ≡ t
back t before h k = omega arith

pub summed_differenced : (before : ℕ) (rs : List Record) → before < 2 ^ 64 → AllOfForm rs → summed before (differenced before rs) ≡ rs
unfolding summed differenced
summed_differenced before [] h f = refl
summed_differenced before (r ∷ rs) h f =
    let e = there r.timestamp before f.0.timestamp h in
    rw (e, summed_differenced r.timestamp rs f.0.timestamp f.1)

pub differenced_summed : (before : ℕ) (rs : List Record) → before < 2 ^ 64 → AllOfForm rs → differenced before (summed before rs) ≡ rs
unfolding summed differenced
differenced_summed before [] h f = refl
differenced_summed before (r ∷ rs) h f =
    let e = back r.timestamp before f.0.timestamp h in
    rw (e, differenced_summed ((before + r.timestamp) % 2 ^ 64) rs (wrapped _) f.1)

pub length_differenced : (before : ℕ) (rs : List Record) → length (differenced before rs) ≡ length rs
unfolding differenced
length_differenced before [] = refl
length_differenced before (r ∷ rs) = ap suc (length_differenced r.timestamp rs)

pub length_summed : (before : ℕ) (rs : List Record) → length (summed before rs) ≡ length rs
unfolding summed
length_summed before [] = refl
length_summed before (r ∷ rs) = ap suc (length_summed ((before + r.timestamp) % 2 ^ 64) rs)

pub data_differenced : (before : ℕ) (rs : List Record) → data_length (differenced before rs) ≡ data_length rs
unfolding differenced data_length
data_differenced before [] = refl
data_differenced before (r ∷ rs) = ap (λ (n : ℕ). length r.bytes + n) (data_differenced r.timestamp rs)

pub data_summed : (before : ℕ) (rs : List Record) → data_length (summed before rs) ≡ data_length rs
unfolding summed data_length
data_summed before [] = refl
data_summed before (r ∷ rs) = ap (λ (n : ℕ). length r.bytes + n) (data_summed ((before + r.timestamp) % 2 ^ 64) rs)

-- ---- numbers one after another

abbrev pub Below32 : List ℕ → Type 0
Below32 [] = Unit {0}
Below32 (x ∷ xs) = (x < 2 ^ 32) × Below32 xs

pub stand_written : (xs : List ℕ) → Below32 xs → (c q : List ℕ) (at : ℕ) → drop at c ≡ numbers xs ++ q → stand c at xs ≡ true
unfolding stand
stand_written [] h c q at e = refl
stand_written (x ∷ xs) h c q at e =
    let f : drop at c ≡ be 4 x ++ (numbers xs ++ q) = e ∙ append_assoc (be 4 x) (numbers xs) q in
    rw (eq-eqb (be_at 4 c at) x (read_back 4 x c _ at h.0 f))
    (stand_written xs h.1 c q (at + 4) (skip 4 x c _ at (at + 4) refl f))

-- the number i of them
pub number_at : (xs : List ℕ) → Below32 xs → (c q : List ℕ) (at i : ℕ) → i < length xs → drop at c ≡ numbers xs ++ q → be_at 4 c (at + 4 * i) ≡ get_or xs i 0
number_at [] b c q at i h e = absurd (omega arith)
number_at (x ∷ xs) b c q at zero h e =
    let s : at + 4 * 0 ≡ at = omega arith in
    ap (be_at 4 c) s ∙ read_back 4 x c _ at b.0 (e ∙ append_assoc (be 4 x) (numbers xs) q)
number_at (x ∷ xs) b c q at (suc i) h e =
    let s : at + 4 * suc i ≡ at + 4 + 4 * i = omega arith in
    ap (be_at 4 c) s
    ∙ number_at xs b.1 c q (at + 4) i (omega arith) (skip 4 x c _ at (at + 4) refl (e ∙ append_assoc (be 4 x) (numbers xs) q))

pub length_numbers : (xs : List ℕ) → length (numbers xs) ≡ 4 * length xs
length_numbers [] = refl
length_numbers (x ∷ xs) = length-append (be 4 x) (numbers xs) ∙ omega (arith, length_be 4 x, length_numbers xs)

pub stand_back : (xs : List ℕ) (c l : List ℕ) (at : ℕ) → Bytes c → stand c at xs ≡ true → at + 4 * length xs ≤ length c
    → l ≡ drop (at + 4 * length xs) c → numbers xs ++ l ≡ drop at c
unfolding stand
stand_back [] c l at b s h e = e ∙ ap (λ (k : ℕ). drop k c) (add-zero at)
stand_back (x ∷ xs) c l at b s h e =
    let p = eqb-true (be_at 4 c at) x (and_left (eqb (be_at 4 c at) x) _ s) in
    let k : at + 4 * suc (length xs) ≡ at + 4 + 4 * length xs = omega arith in
    let i = stand_back xs c l (at + 4) b (and_right (eqb (be_at 4 c at) x) _ s) (omega arith) (e ∙ ap (λ (n : ℕ). drop n c) k) in
    append_assoc (be 4 x) (numbers xs) l
    ∙ ap (λ (n : ℕ). be 4 n ++ (numbers xs ++ l)) (sym p)
    ∙ put_back 4 c (numbers xs ++ l) at (at + 4) b (omega arith) refl i

-- ---- what is written is gathered

pub length_column : (cell : Record → List ℕ) (w : ℕ) → ((r : Record) → length (cell r) ≡ w) → (rs : List Record) → length (column cell rs) ≡ w * length rs
unfolding column
length_column cell w h [] = omega arith
length_column cell w h (r ∷ rs) =
    length-append (cell r) (column cell rs) ∙ omega (arith, h r, length_column cell w h rs, mul-suc w (length rs))

pub length_lengths : (r : Record) → length (lengths r) ≡ 8
length_lengths r = simp (length-append, length_be)

pub length_bytes_column : (rs : List Record) → length (column bytes rs) ≡ data_length rs
unfolding column data_length
length_bytes_column [] = refl
length_bytes_column (r ∷ rs) = length-append r.bytes (column bytes rs) ∙ ap (λ (n : ℕ). length r.bytes + n) (length_bytes_column rs)

-- behind the cell of a record
pub pass : (c p q : List ℕ) (at to : ℕ) → to ≡ at + length p → drop at c ≡ p ++ q → drop to c ≡ q
pass c p q at to k e =
    ap (λ (n : ℕ). drop n c) k ∙ sym (drop-drop (length p) at c) ∙ ap (drop (length p)) e ∙ drop_at p q (length p) refl

-- a column's first cell and the rest of it
first : (cell : Record → List ℕ) (r : Record) (rs : List Record) (c q : List ℕ) (at : ℕ)
    → drop at c ≡ column cell (r ∷ rs) ++ q → drop at c ≡ cell r ++ (column cell rs ++ q)
unfolding column
first cell r rs c q at e = e ∙ append_assoc (cell r) (column cell rs) q

module _ (r : Record) (f : OfForm r) (rs : List Record) (c q : List ℕ) (l : ℕ) (e : drop l c ≡ column lengths (r ∷ rs) ++ q) where
  lengths_0 : drop l c ≡ be 4 r.original ++ (be 4 (length r.bytes) ++ (column lengths rs ++ q))
  lengths_0 = first lengths r rs c q l e ∙ append_assoc (be 4 r.original) (be 4 (length r.bytes)) _

  lengths_4 : drop (l + 4) c ≡ be 4 (length r.bytes) ++ (column lengths rs ++ q)
  lengths_4 = skip 4 r.original c _ l (l + 4) refl lengths_0

  lengths_8 : drop (l + 8) c ≡ column lengths rs ++ q
  lengths_8 = skip 4 (length r.bytes) c _ (l + 4) (l + 8) (omega arith) lengths_4

  original_back : be_at 4 c l ≡ r.original
  original_back = read_back 4 _ c _ l f.original lengths_0

  included_back : be_at 4 c (l + 4) ≡ length r.bytes
  included_back = read_back 4 _ c _ (l + 4) (omega (arith, f.included, f.original)) lengths_4

pub total_written : (rs : List Record) → AllOfForm rs → (c q : List ℕ) (l : ℕ) → drop l c ≡ column lengths rs ++ q
    → included_total c (length rs) l ≡ data_length rs
unfolding included_total data_length
total_written [] f c q l e = refl
total_written (r ∷ rs) f c q l e =
    omega (arith, included_back r f.0 rs c q l e, total_written rs f.1 c q (l + 8) (lengths_8 r f.0 rs c q l e))

pub longer_written : (rs : List Record) → AllOfForm rs → (c q : List ℕ) (l : ℕ) → drop l c ≡ column lengths rs ++ q
    → none_longer c (length rs) l ≡ true
unfolding none_longer
longer_written [] f c q l e = refl
longer_written (r ∷ rs) f c q l e =
    and_both
    (le-leb (be_at 4 c (l + 4)) (be_at 4 c l) (omega (arith, included_back r f.0 rs c q l e, original_back r f.0 rs c q l e, f.0.included)))
    (longer_written rs f.1 c q (l + 8) (lengths_8 r f.0 rs c q l e))

pub gathered_written : (rs : List Record) → AllOfForm rs → (c : List ℕ) (l f d t b : ℕ) (ql qf qd qt qb : List ℕ)
    → drop l c ≡ column lengths rs ++ ql → drop f c ≡ column flags rs ++ qf → drop d c ≡ column drops rs ++ qd
    → drop t c ≡ column timestamp rs ++ qt → drop b c ≡ column bytes rs ++ qb
    → gathered c (length rs) l f d t b ≡ rs
unfolding gathered
gathered_written [] o c l f d t b ql qf qd qt qb el ef ed et eb = refl
gathered_written (r ∷ rs) o c l f d t b ql qf qd qt qb el ef ed et eb =
    let n = included_back r o.0 rs c ql l el in
    let ef' = first flags r rs c qf f ef in
    let ed' = first drops r rs c qd d ed in
    let et' = first timestamp r rs c qt t et in
    let eb' = first bytes r rs c qb b eb in
    let p1 = original_back r o.0 rs c ql l el in
    let p2 = read_back 4 r.flags c _ f o.0.flags ef' in
    let p3 = read_back 4 r.drops c _ d o.0.drops ed' in
    let p4 = read_back 8 r.timestamp c _ t o.0.timestamp et' in
    let p5 : take (be_at 4 c (l + 4)) (drop b c) ≡ r.bytes = rw (n, eb') (take-append_seam r.bytes (column bytes rs ++ qb)) in
    let ih =
    gathered_written rs o.1 c (l + 8) (f + 4) (d + 4) (t + 8) (b + be_at 4 c (l + 4)) ql qf qd qt qb
    (lengths_8 r o.0 rs c ql l el)
    (skip 4 r.flags c _ f (f + 4) refl ef')
    (skip 4 r.drops c _ d (d + 4) refl ed')
    (skip 8 r.timestamp c _ t (t + 8) refl et')
    (pass c r.bytes _ b (b + be_at 4 c (l + 4)) (omega (arith, n)) eb')
    in
    λ k. record { original = p1 k; flags = p2 k; drops = p3 k; timestamp = p4 k; bytes = p5 k } ∷ ih k

-- ---- the columns of one number a record

pub data Field : Type 0 where
  of_flags of_drops of_timestamp : Field

abbrev pub width : Field → ℕ
width of_flags = 4
width of_drops = 4
width of_timestamp = 8

abbrev pub number_of : Field → Record → ℕ
number_of of_flags r = r.flags
number_of of_drops r = r.drops
number_of of_timestamp r = r.timestamp

-- of the places of the three columns, that of the field
abbrev pub place_of : Field → ℕ → ℕ → ℕ → ℕ
place_of of_flags f d t = f
place_of of_drops f d t = d
place_of of_timestamp f d t = t

place_next : (x : Field) (f d t : ℕ) → place_of x (f + 4) (d + 4) (t + 8) ≡ place_of x f d t + width x
place_next of_flags f d t = refl
place_next of_drops f d t = refl
place_next of_timestamp f d t = refl

abbrev gathered_one : List ℕ → ℕ → ℕ → ℕ → ℕ → ℕ → Record
gathered_one c l f d t b = record_of (be_at 4 c l) (be_at 4 c f) (be_at 4 c d) (be_at 8 c t) (take (be_at 4 c (l + 4)) (drop b c))

number_is : (x : Field) (c : List ℕ) (l f d t b : ℕ) → number_of x (gathered_one c l f d t b) ≡ be_at (width x) c (place_of x f d t)
number_is of_flags c l f d t b = refl
number_is of_drops c l f d t b = refl
number_is of_timestamp c l f d t b = refl

-- ---- what is gathered is written

pub length_gathered : (c : List ℕ) (k l f d t b : ℕ) → length (gathered c k l f d t b) ≡ k
unfolding gathered
length_gathered c zero l f d t b = refl
length_gathered c (suc k) l f d t b = ap suc (length_gathered c k (l + 8) (f + 4) (d + 4) (t + 8) (b + be_at 4 c (l + 4)))

module _ (c : List ℕ) (y : Bytes c) where
  -- the included lengths are those of the bytes
  part_length : (n b : ℕ) → b + n ≤ length c → length (take n (drop b c)) ≡ n
  part_length n b h = length-take-le n (drop b c) (omega (arith, length-drop b c))

  part_bytes : (n b : ℕ) → b + n ≤ length c → Bytes (take n (drop b c))
  part_bytes n b h i = go (ltb i n) refl
    where
      go : (x : Bool) → ltb i n ≡ x → get_or (take n (drop b c)) i 0 < 256
      go true q = rw (get_or-take n (drop b c) i 0 (ltb-true i n q), get_or-drop b c i 0) (y (b + i))
      go false q = omega (arith, get_or-eq_default (take n (drop b c)) 0 {n = i} (omega (arith, ltb-false i n q, part_length n b h)))

  pub form_gathered : (k l f d t b : ℕ) → none_longer c k l ≡ true → b + included_total c k l ≤ length c → AllOfForm (gathered c k l f d t b)
  unfolding gathered none_longer included_total
  form_gathered zero l f d t b e h = tt
  form_gathered (suc k) l f d t b e h =
      let n = be_at 4 c (l + 4) in
      let s = leb-true n (be_at 4 c l) (and_left (leb n (be_at 4 c l)) _ e) in (
        record {
          original = below 4 c l y;
          included = omega (arith, s, part_length n b (omega arith));
          flags = below 4 c f y;
          drops = below 4 c d y;
          timestamp = below 8 c t y;
          bytes = part_bytes n b (omega arith);
        },
        form_gathered k (l + 8) (f + 4) (d + 4) (t + 8) (b + n) (and_right (leb n (be_at 4 c l)) _ e) (omega arith),
      )

  pub data_gathered : (k l f d t b : ℕ) → b + included_total c k l ≤ length c → data_length (gathered c k l f d t b) ≡ included_total c k l
  unfolding gathered included_total data_length
  data_gathered zero l f d t b h = refl
  data_gathered (suc k) l f d t b h =
      omega (arith, part_length (be_at 4 c (l + 4)) b (omega arith), data_gathered k (l + 8) (f + 4) (d + 4) (t + 8) (b + be_at 4 c (l + 4)) (omega arith))

  pub lengths_gathered : (k l f d t b to : ℕ) (m : List ℕ) → b + included_total c k l ≤ length c → to ≡ l + 8 * k → to ≤ length c → m ≡ drop to c
      → column lengths (gathered c k l f d t b) ++ m ≡ drop l c
  unfolding gathered included_total column
  lengths_gathered zero l f d t b to m h p z e = let s : to ≡ l = omega arith in e ∙ ap (λ (n : ℕ). drop n c) s
  lengths_gathered (suc k) l f d t b to m h p z e =
      let n = be_at 4 c (l + 4) in
      let q : length (take n (drop b c)) ≡ n = part_length n b (omega arith) in
      rw q
      (simp append_assoc
      (put_back 4 c _ l (l + 4) y (omega arith) refl
      (put_back 4 c _ (l + 4) (l + 8) y (omega arith) (omega arith)
      (lengths_gathered k (l + 8) (f + 4) (d + 4) (t + 8) (b + n) to m (omega arith) (omega arith) z e))))

  -- a column of numbers, whatever their width
  pub numbers_gathered : (x : Field) (k l f d t b to : ℕ) (m : List ℕ) → to ≡ place_of x f d t + width x * k → to ≤ length c → m ≡ drop to c
      → column (λ r. be (width x) (number_of x r)) (gathered c k l f d t b) ++ m ≡ drop (place_of x f d t) c
  unfolding gathered column
  numbers_gathered x zero l f d t b to m p z e = let s : to ≡ place_of x f d t = omega arith in e ∙ ap (λ (n : ℕ). drop n c) s
  numbers_gathered x (suc k) l f d t b to m p z e =
      let w = width x in
      let at = place_of x f d t in
      let g = gathered c k (l + 8) (f + 4) (d + 4) (t + 8) (b + be_at 4 c (l + 4)) in
      let q = place_next x f d t in
      let h : to ≡ at + w + w * k = p ∙ omega (arith, mul-suc w k) in
      append_assoc (be w _) (column (λ r. be w (number_of x r)) g) m
      ∙ ap (λ (v : ℕ). be w v ++ (column (λ r. be w (number_of x r)) g ++ m)) (number_is x c l f d t b)
      ∙ put_back w c _ at (at + w) y (omega arith) refl
      (numbers_gathered x k (l + 8) (f + 4) (d + 4) (t + 8) (b + be_at 4 c (l + 4)) to m (h ∙ ap (λ (v : ℕ). v + w * k) (sym q)) z e
      ∙ ap (λ (v : ℕ). drop v c) q)

  pub bytes_gathered : (k l f d t b : ℕ) → length c ≡ b + included_total c k l → column bytes (gathered c k l f d t b) ≡ drop b c
  unfolding gathered included_total column
  bytes_gathered zero l f d t b h = sym (drop_of_length-le c {i = b} (omega arith))
  bytes_gathered (suc k) l f d t b h =
      let n = be_at 4 c (l + 4) in
      ap (λ (m : List ℕ). take n (drop b c) ++ m) (bytes_gathered k (l + 8) (f + 4) (d + 4) (t + 8) (b + n) (omega arith) ∙ sym (drop-drop n b c))
      ∙ take-append-drop n (drop b c)
