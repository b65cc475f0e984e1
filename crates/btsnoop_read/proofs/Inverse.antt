-- Reading and writing a recording are each other's inverse. Assumes nothing.
use Rattle.std.specs.Prelude.{ℕ, zero, suc, ◌+◌, ◌-◌, ◌<◌, ◌≤◌, ◌^◌, ◌≡◌, refl, Bool, true, false, cond, ◌||◌, List, [], ◌∷◌, ◌++◌, leb, ltb, eqb, length, get_or, take, drop}
use Rattle.std.proofs.Common.{sym, ap, ◌∙◌, append_assoc, append-nil, add-zero, arith, ltb-true, ltb-false, le-leb, leb-true, eq-eqb, eqb-true, length-append, length-drop, take-append-drop, drop_of_length-le, drop-drop, length-take-le, get_or-take, get_or-drop}
use Rattle.std.proofs.Math.Option.{Option, none, some}
use Rattle.std.proofs.Math.ListN.{get_or-eq_default}
use Rattle.std.proofs.Math.Seq.{take-append_seam, drop-append_seam}
use Rattle.std.proofs.lemmas.Bool.{false≢true}
use Rattle.model.proofs.Laws.{and_left, and_right}
use Rattle.big_endian.specs.BigEndian.{be, be_at}
use Rattle.big_endian.specs.Laws.{Bytes, length_be, below, read_back, skip, put_back}
use Rattle.btsnoop_read.specs.Format.{Record, record_bytes, records_bytes, header, identification, is_datalink, recording_bytes, OfForm, AllOfForm}
use Rattle.btsnoop_read.specs.Read.{Records, Recording, ahead, is_header, datalink_in, original_at, included_at, record_at, next_at, is_whole, records_from, records_at, records_in, recording_in}
use Rattle.btsnoop_read.specs.Laws.{Whole, whole, is_whole_lem, records_next, records_end}

-- ---- what is written is read

module _ (r : Record) (f : OfForm r) (s q : List ℕ) (at : ℕ) (e : drop at s ≡ record_bytes r ++ q) where
  at_0 : drop at s ≡ be 4 r.original ++ (be 4 (length r.bytes) ++ (be 4 r.flags ++ (be 4 r.drops ++ (be 8 r.timestamp ++ (r.bytes ++ q)))))
  at_0 = e ∙ simp append_assoc

  at_4 : drop (at + 4) s ≡ be 4 (length r.bytes) ++ (be 4 r.flags ++ (be 4 r.drops ++ (be 8 r.timestamp ++ (r.bytes ++ q))))
  at_4 = skip 4 _ s _ at (at + 4) refl at_0

  at_8 : drop (at + 8) s ≡ be 4 r.flags ++ (be 4 r.drops ++ (be 8 r.timestamp ++ (r.bytes ++ q)))
  at_8 = skip 4 _ s _ (at + 4) (at + 8) (omega arith) at_4

  at_12 : drop (at + 12) s ≡ be 4 r.drops ++ (be 8 r.timestamp ++ (r.bytes ++ q))
  at_12 = skip 4 _ s _ (at + 8) (at + 12) (omega arith) at_8

  at_16 : drop (at + 16) s ≡ be 8 r.timestamp ++ (r.bytes ++ q)
  at_16 = skip 4 _ s _ (at + 12) (at + 16) (omega arith) at_12

  at_24 : drop (at + 24) s ≡ r.bytes ++ q
  at_24 = skip 8 _ s _ (at + 16) (at + 24) (omega arith) at_16

  included_back : included_at s at ≡ length r.bytes
  included_back = read_back 4 _ s _ (at + 4) (omega (arith, f.included, f.original)) at_4

  original_back : original_at s at ≡ r.original
  original_back = read_back 4 _ s _ at f.original at_0

  record_back : record_at s at ≡ r
  record_back =
      let bytes : take (included_at s at) (drop (at + 24) s) ≡ r.bytes = rw (included_back, at_24) (take-append_seam r.bytes q) in
      let flags = read_back 4 r.flags s _ (at + 8) f.flags at_8 in
      let drops = read_back 4 r.drops s _ (at + 12) f.drops at_12 in
      let timestamp = read_back 8 r.timestamp s _ (at + 16) f.timestamp at_16 in
      λ k. record { original = original_back k; flags = flags k; drops = drops k; timestamp = timestamp k; bytes = bytes k }

  rest_back : drop (next_at s at) s ≡ q
  rest_back =
      rw included_back
      (sym (drop-drop (length r.bytes) (at + 24) s) ∙ ap (drop (length r.bytes)) at_24 ∙ drop-append_seam r.bytes q)

  size : length s - at ≡ 24 + length r.bytes + length q
  size =
      sym (length-drop at s)
      ∙ ap length at_0
      ∙ simp (length-append, length_be) (omega arith)

  next_within : next_at s at ≤ length s
  next_within = omega (arith, size, included_back)

  whole_back : is_whole s at ≡ true
  whole_back = is_whole_lem s at next_within (omega (arith, included_back, original_back, f.included))

-- where the bytes of records stand, to the end, the records are read
pub records_back : (rs : List Record) → AllOfForm rs → (s : List ℕ) (at : ℕ) → at ≤ length s → drop at s ≡ records_bytes rs
    → records_at s at ≡ record { records = rs; whole = true }
unfolding records_bytes
records_back [] f s at h e =
    records_end s at (omega (arith, length-drop at s, ap length e))
records_back (r ∷ rs) f s at h e =
    let q = records_bytes rs in
    records_next s at (omega (arith, size r f.0 s q at e)) (whole_back r f.0 s q at e)
    ∙ ap (ahead (record_at s at)) (records_back rs f.1 s (next_at s at) (next_within r f.0 s q at e) (rest_back r f.0 s q at e))
    ∙ ap (λ (x : Record). record { records = x ∷ rs; whole = true }) (record_back r f.0 s q at e)

-- the header, and what stands behind it
module _ (d : ℕ) (q : List ℕ) (known : is_datalink d ≡ true) where
  head_0 : header d ++ q ≡ be 8 identification ++ (be 4 1 ++ (be 4 d ++ q))
  head_0 = simp append_assoc

  head_8 : drop 8 (header d ++ q) ≡ be 4 1 ++ (be 4 d ++ q)
  head_8 = skip 8 identification (header d ++ q) _ 0 8 refl head_0

  head_12 : drop 12 (header d ++ q) ≡ be 4 d ++ q
  head_12 = skip 4 1 (header d ++ q) _ 8 12 refl head_8

  pub head_16 : drop 16 (header d ++ q) ≡ q
  head_16 = skip 4 d (header d ++ q) _ 12 16 refl head_12

  pub header_length : length (header d ++ q) ≡ 16 + length q
  header_length = simp (length-append, length_be) (omega arith)

  small : d < 2 ^ 32
  small = go (eqb d 1001) refl
    where
      go : (b : Bool) → eqb d 1001 ≡ b → d < 2 ^ 32
      go true e = omega (arith, eqb-true d 1001 e)
      go false e = omega (arith, eqb-true d 1002 (sym (ap (λ (c : Bool). c || eqb d 1002) e) ∙ known))

  pub datalink_back : datalink_in (header d ++ q) ≡ d
  datalink_back = read_back 4 d (header d ++ q) _ 12 small head_12

  pub header_back : is_header (header d ++ q) ≡ true
  header_back =
      let s = header d ++ q in
      let i = read_back 8 identification s _ 0 (omega arith) head_0 in
      let v = read_back 4 1 s _ 8 (omega arith) head_8 in
      rw (le-leb 16 (length s) (omega (arith, header_length)), eq-eqb (be_at 8 s 0) identification i, eq-eqb (be_at 4 s 8) 1 v, datalink_back) known

-- "reading it must return the same records"
pub read_written : (d : ℕ) (rs : List Record) → is_datalink d ≡ true → AllOfForm rs → recording_in (recording_bytes d rs) ≡ some (d, rs)
read_written d rs known f =
    let q = records_bytes rs in
    let e = records_back rs f (recording_bytes d rs) 16 (omega (arith, header_length d q known)) (head_16 d q known) in
    rw (header_back d q known, e, datalink_back d q known)

-- ---- what is read is written

pub length_bytes : (s : List ℕ) (at : ℕ) → Whole s at → length (record_at s at).bytes ≡ included_at s at
length_bytes s at w = length-take-le (included_at s at) (drop (at + 24) s) (omega (arith, w.within, length-drop (at + 24) s))

module _ (s : List ℕ) (b : Bytes s) (at : ℕ) (w : Whole s at) where
  part_back : (l : List ℕ) → l ≡ drop (next_at s at) s → (record_at s at).bytes ++ l ≡ drop (at + 24) s
  part_back l e =
      ap (λ (m : List ℕ). (record_at s at).bytes ++ m) (e ∙ sym (drop-drop (included_at s at) (at + 24) s))
      ∙ take-append-drop (included_at s at) (drop (at + 24) s)

  bytes_back : (l : List ℕ) → l ≡ drop (next_at s at) s → record_bytes (record_at s at) ++ l ≡ drop at s
  bytes_back l e =
      let h = w.within in
      rw (length_bytes s at w)
      (simp append_assoc
      (put_back 4 s _ at (at + 4) b (omega arith) refl
      (put_back 4 s _ (at + 4) (at + 8) b (omega arith) (omega arith)
      (put_back 4 s _ (at + 8) (at + 12) b (omega arith) (omega arith)
      (put_back 4 s _ (at + 12) (at + 16) b (omega arith) (omega arith)
      (put_back 8 s _ (at + 16) (at + 24) b (omega arith) (omega arith)
      (part_back l e)))))))

  form_back : OfForm (record_at s at)
  form_back =
      record {
        original = below 4 s at b;
        included = omega (arith, w.included, length_bytes s at w);
        flags = below 4 s (at + 8) b;
        drops = below 4 s (at + 12) b;
        timestamp = below 8 s (at + 16) b;
        bytes = part_bytes;
      }
    where
      part_bytes : Bytes (take (included_at s at) (drop (at + 24) s))
      part_bytes i = go (ltb i (included_at s at)) refl
        where
          go : (c : Bool) → ltb i (included_at s at) ≡ c → get_or (take (included_at s at) (drop (at + 24) s)) i 0 < 256
          go true q = rw (get_or-take (included_at s at) (drop (at + 24) s) i 0 (ltb-true _ _ q), get_or-drop (at + 24) s i 0) (b (at + 24 + i))
          go false q = omega (arith, get_or-eq_default (take (included_at s at) (drop (at + 24) s)) 0 {n = i} (omega (arith, ltb-false i (included_at s at) q, length_bytes s at w)))

-- the position behind a record and what follows it
behind : (s : List ℕ) (at : ℕ) → Whole s at → (l : List ℕ) → at + length (record_bytes (record_at s at) ++ l) ≡ next_at s at + length l
behind s at w l = simp (length-append, length_be) (omega (arith, length_bytes s at w))

-- something stands at a position, and it is no whole record
abbrev pub Cut : List ℕ → ℕ → Type 0
Cut s at = (at < length s) × (is_whole s at ≡ false)

-- the records before the first that is not whole: their bytes stand there, each is of the form, nothing is left where all are whole,
-- and else what stands behind them is no whole record
pub record Stand (s : List ℕ) (at : ℕ) (w : Records) : Type 0 where
  pub rest : List ℕ
  pub bytes : records_bytes w.records ++ rest ≡ drop at s
  pub none_left : w.whole ≡ true → rest ≡ []
  pub cut : w.whole ≡ false → Cut s (at + length (records_bytes w.records))
  pub form : AllOfForm w.records

pub records_stand : (s : List ℕ) → Bytes s → (n at : ℕ) → length s ≤ at + n → Stand s at (records_from s n at)
unfolding records_from records_bytes
records_stand s b zero at h =
    record {
      rest = drop at s;
      bytes = refl;
      none_left = λ e. drop_of_length-le s {i = at} (omega arith);
      cut = λ e. absurd (false≢true (sym e));
      form = tt;
    }
records_stand s b (suc n) at h =
    go (ltb at (length s)) (is_whole s at) refl refl (records_stand s b n (next_at s at) (omega arith))
  where
    go : (x y : Bool) → ltb at (length s) ≡ x → is_whole s at ≡ y → Stand s (next_at s at) (records_from s n (next_at s at))
        → Stand s at
        (cond x (cond y (ahead (record_at s at) (records_from s n (next_at s at))) (record { records = []; whole = false }))
        (record { records = []; whole = true }))
    go true true p q i =
        let w = whole s at q in
        record {
          rest = i.rest;
          bytes = append_assoc (record_bytes (record_at s at)) _ i.rest ∙ bytes_back s b at w _ i.bytes;
          none_left = i.none_left;
          cut = λ e. rw (behind s at w (records_bytes (records_from s n (next_at s at)).records)) (i.cut e);
          form = (form_back s b at w, i.form);
        }
    go true false p q i =
        record {
          rest = drop at s;
          bytes = refl;
          none_left = λ e. absurd (false≢true e);
          cut = λ e. rw (add-zero at) (ltb-true at (length s) p, q);
          form = tt;
        }
    go false y p q i =
        record {
          rest = drop at s;
          bytes = refl;
          none_left = λ e. drop_of_length-le s {i = at} (ltb-false at (length s) p);
          cut = λ e. absurd (false≢true (sym e));
          form = tt;
        }

-- the tests of `recording_in`
pub in_form : (s : List ℕ) (d : ℕ) (rs : List Record) → recording_in s ≡ some (d, rs)
    → (is_header s ≡ true) × ((records_in s).whole ≡ true) × (datalink_in s ≡ d) × ((records_in s).records ≡ rs)
in_form s d rs e = go (is_header s) (records_in s).whole refl refl e
  where
    go : (x y : Bool) → is_header s ≡ x → (records_in s).whole ≡ y
        → ◌≡◌ {A = Option Recording} (cond x (cond y (some (datalink_in s, (records_in s).records)) none) none) (some (d, rs))
        → (is_header s ≡ true) × ((records_in s).whole ≡ true) × (datalink_in s ≡ d) × ((records_in s).records ≡ rs)
    go true true p q t =
        let z : ◌≡◌ {A = Recording} (datalink_in s, (records_in s).records) (d, rs) = cc in
        (p, q, ap (λ (x : Recording). x.0) z, ap (λ (x : Recording). x.1) z)
    go true false p q t = let z : ◌≡◌ {A = ℕ} 0 1 = cc in absurd (omega arith)
    go false y p q t = let z : ◌≡◌ {A = ℕ} 0 1 = cc in absurd (omega arith)

pub header_in : (s : List ℕ) → Bytes s → is_header s ≡ true
    → (16 ≤ length s) × (is_datalink (datalink_in s) ≡ true) × (header (datalink_in s) ++ drop 16 s ≡ s)
header_in s b e =
    let r = and_right (leb 16 (length s)) _ e in
    let h = leb-true 16 (length s) (and_left (leb 16 (length s)) _ e) in
    let i = eqb-true (be_at 8 s 0) identification (and_left (eqb (be_at 8 s 0) identification) _ r) in
    let r2 = and_right (eqb (be_at 8 s 0) identification) _ r in
    let v = eqb-true (be_at 4 s 8) 1 (and_left (eqb (be_at 4 s 8) 1) _ r2) in
    let k = and_right (eqb (be_at 4 s 8) 1) _ r2 in (
      h,
      k,
      ap (λ (x : ℕ). (be 8 x ++ (be 4 1 ++ be 4 (datalink_in s))) ++ drop 16 s) (sym i)
          ∙ ap (λ (x : ℕ). (be 8 (be_at 8 s 0) ++ (be 4 x ++ be 4 (datalink_in s))) ++ drop 16 s) (sym v)
          ∙ simp append_assoc
          (put_back 8 s _ 0 8 b (omega arith) refl
          (put_back 4 s _ 8 12 b (omega arith) refl
          (put_back 4 s _ 12 16 b (omega arith) refl refl))),
    )

-- bytes that are read as a recording are the bytes of that recording, and its records are of the form: nothing else is accepted
pub accepted : (s : List ℕ) (d : ℕ) (rs : List Record) → Bytes s → recording_in s ≡ some (d, rs)
    → (recording_bytes d rs ≡ s) × (is_datalink d ≡ true) × AllOfForm rs
accepted s d rs b e =
    let t = in_form s d rs e in
    let h = header_in s b t.0 in
    let f = records_stand s b (length s - 16) 16 (omega arith) in
    let g : records_bytes (records_in s).records ≡ drop 16 s =
    sym (append-nil (records_bytes (records_in s).records))
    ∙ ap (λ (l : List ℕ). records_bytes (records_in s).records ++ l) (sym (f.none_left t.1))
    ∙ f.bytes in
    let p = t.3 in
    let q = t.2 in
    (rw (← p, ← q) (ap (λ (l : List ℕ). header (datalink_in s) ++ l) g ∙ h.2), rw (← q) h.1, rw (← p) f.form)
