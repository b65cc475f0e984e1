-- An arrangement that is accepted is what its recording is turned to, and the other way. Assumes nothing.
use Rattle.std.specs.Prelude.{ℕ, ◌+◌, ◌*◌, ◌<◌, ◌≤◌, ◌≡◌, refl, Bool, true, false, cond, List, [], ◌∷◌, ◌++◌, length, get_or, take, drop}
use Rattle.std.proofs.Common.{sym, ap, ◌∙◌, subst, append-nil, arith, le-leb, leb-true, eq-eqb, eqb-true, Fits, length-append}
use Rattle.std.proofs.Math.Option.{Option, none, some}
use Rattle.std.proofs.lemmas.Bool.{lt-leb}
use Rattle.std.specs.Int.{w8}
use Rattle.std.proofs.Math.Seq.{take-append_seam}
use Rattle.model.proofs.Laws.{and_left, and_right}
use Rattle.big_endian.specs.BigEndian.{be_at}
use Rattle.big_endian.specs.Laws.{Bytes, length_be}
use Rattle.btsnoop_read.specs.Format.{Record, header, is_datalink, records_bytes, recording_bytes, AllOfForm}
use Rattle.btsnoop_read.specs.Read.{Recording, is_header, datalink_in, recording_in}
use Rattle.btsnoop_read.proofs.Inverse.{head_16, header_length, datalink_back, header_back, header_in, read_written, accepted}
use Rattle.btsnoop_columns.specs.Format.{lengths, flags, drops, timestamp, bytes, column, differenced, data_length, places, numbers, columns, columns_bytes}
use Rattle.btsnoop_columns.specs.Read.{gathered, included_total, none_longer, stand, count_in, data_in, pairs_stand, length_is, bytes_agree, is_arranged, summed, gathered_in, columns_in, longest, size_fits, sized, arranged_as, arranged, recorded_as, recorded}
use Rattle.btsnoop_columns.specs.Statement.{ThereAndBack, BackAndThere, told, PairsTell, EachPairTells}
use Rattle.btsnoop_columns.proofs.Inverse.{and_both, form_differenced, form_summed, summed_differenced, differenced_summed, length_differenced, length_summed, data_differenced, data_summed, Below32, stand_written, number_at, length_numbers, stand_back, length_column, length_lengths, length_bytes_column, pass, total_written, longer_written, gathered_written, length_gathered, form_gathered, data_gathered, lengths_gathered, numbers_gathered, of_flags, of_drops, of_timestamp, bytes_gathered}
use Rattle.btsnoop_columns.proofs.RoundTrip.{size_fits_lem, fits_size, size_past, length_arrangement, length_recording, columns_written, Arranged, is_arranged_lem}

module _ (c : List ℕ) (y : Bytes c) (a : Arranged c) where
  abbrev pub k : ℕ
  k = count_in c

  abbrev pub rs : List Record
  rs = summed 0 (gathered_in c)

  pub within : 56 + 24 * k + included_total c k 56 ≤ length c
  within = omega (arith, a.size, a.total)

  pub form_in : AllOfForm (gathered_in c)
  form_in = form_gathered c y k 56 (56 + 8 * k) (56 + 12 * k) (56 + 16 * k) (56 + 24 * k) a.none_longer_lem within

  pub columns_in_lem : columns (gathered_in c) ≡ drop 56 c
  columns_in_lem =
      let h = a.size in
      lengths_gathered c y k 56 (56 + 8 * k) (56 + 12 * k) (56 + 16 * k) (56 + 24 * k) (56 + 8 * k) _ within refl (omega arith)
      (numbers_gathered c y of_flags k 56 (56 + 8 * k) (56 + 12 * k) (56 + 16 * k) (56 + 24 * k) (56 + 12 * k) _ (omega arith) (omega arith)
      (numbers_gathered c y of_drops k 56 (56 + 8 * k) (56 + 12 * k) (56 + 16 * k) (56 + 24 * k) (56 + 16 * k) _ (omega arith) (omega arith)
      (numbers_gathered c y of_timestamp k 56 (56 + 8 * k) (56 + 12 * k) (56 + 16 * k) (56 + 24 * k) (56 + 24 * k) _ (omega arith) (omega arith)
      (bytes_gathered c y k 56 (56 + 8 * k) (56 + 12 * k) (56 + 16 * k) (56 + 24 * k) (omega (arith, a.total))))))

  pub count_in_lem : length rs ≡ k
  count_in_lem = length_summed 0 (gathered_in c) ∙ length_gathered c k 56 (56 + 8 * k) (56 + 12 * k) (56 + 16 * k) (56 + 24 * k)

  pub data_in_lem : data_length rs ≡ data_in c
  data_in_lem =
      data_summed 0 (gathered_in c)
      ∙ data_gathered c y k 56 (56 + 8 * k) (56 + 12 * k) (56 + 16 * k) (56 + 24 * k) within
      ∙ a.total

  pub pairs_in : numbers (places (length rs) (data_length rs)) ++ columns (differenced 0 rs) ≡ drop 16 c
  pairs_in =
      rw (count_in_lem, data_in_lem, differenced_summed 0 (gathered_in c) (omega arith) form_in, columns_in_lem)
      (stand_back (places k (data_in c)) c (drop 56 c) 16 y a.pairs (omega (arith, a.size)) refl)

-- the tests of `columns_in`
pub columns_tests : (c : List ℕ) (d : ℕ) (rs : List Record) → columns_in c ≡ some (d, rs)
    → (is_header c ≡ true) × (is_arranged c ≡ true) × (datalink_in c ≡ d) × (summed 0 (gathered_in c) ≡ rs)
columns_tests c d rs e = go (is_header c) (is_arranged c) refl refl e
  where
    go : (x y : Bool) → is_header c ≡ x → is_arranged c ≡ y
        → ◌≡◌ {A = Option Recording} (cond x (cond y (some (datalink_in c, summed 0 (gathered_in c))) none) none) (some (d, rs))
        → (is_header c ≡ true) × (is_arranged c ≡ true) × (datalink_in c ≡ d) × (summed 0 (gathered_in c) ≡ rs)
    go true true p q t =
        let z : ◌≡◌ {A = Recording} (datalink_in c, summed 0 (gathered_in c)) (d, rs) = cc in
        (p, q, ap (λ (x : Recording). x.0) z, ap (λ (x : Recording). x.1) z)
    go true false p q t = let z : ◌≡◌ {A = ℕ} 0 1 = cc in absurd (omega arith)
    go false y p q t = let z : ◌≡◌ {A = ℕ} 0 1 = cc in absurd (omega arith)

pub columns_accepted : (c : List ℕ) (d : ℕ) (rs : List Record) → Bytes c → columns_in c ≡ some (d, rs)
    → (columns_bytes d rs ≡ c) × (is_datalink d ≡ true) × AllOfForm rs × (length c ≤ 4294967295)
columns_accepted c d rs y e =
    let t = columns_tests c d rs e in
    let h = header_in c y t.0 in
    let a = is_arranged_lem c t.1 in
    let p = t.2 in
    let q = t.3 in (
      rw (← p, ← q) (ap (λ (l : List ℕ). header (datalink_in c) ++ l) (pairs_in c y a) ∙ h.2),
      rw (← p) h.1,
      rw (← q) (form_summed 0 (gathered_in c) (form_in c y a)),
      a.small,
    )

-- ---- the two directions, where nothing is refused

pub by_recording : (s c : List ℕ) → arranged s ≡ some c
    → (d : ℕ) × (rs : List Record) × (recording_in s ≡ some (d, rs)) × (length c ≤ 4294967295) × (columns_bytes d rs ≡ c)
by_recording s c e = go (recording_in s) refl e
  where
    fit : (a : List ℕ) (b : Bool) → size_fits a ≡ b → ◌≡◌ {A = Option (List ℕ)} (cond b (some a) none) (some c) → (length c ≤ 4294967295) × (a ≡ c)
    fit a true q t = let p : a ≡ c = cc in (omega (arith, fits_size a q, ap length p), p)
    fit a false q t = let z : ◌≡◌ {A = ℕ} 0 1 = cc in absurd (omega arith)

    go : (o : Option Recording) → recording_in s ≡ o → arranged_as o ≡ some c
        → (d : ℕ) × (rs : List Record) × (recording_in s ≡ some (d, rs)) × (length c ≤ 4294967295) × (columns_bytes d rs ≡ c)
    go none p t = let z : ◌≡◌ {A = ℕ} 0 1 = cc in absurd (omega arith)
    go (some (d, rs)) p t = let f = fit (columns_bytes d rs) (size_fits (columns_bytes d rs)) refl t in (d, rs, p, f.0, f.1)

pub by_columns : (c s : List ℕ) → recorded c ≡ some s
    → (d : ℕ) × (rs : List Record) × (columns_in c ≡ some (d, rs)) × (recording_bytes d rs ≡ s)
by_columns c s e = go (columns_in c) refl e
  where
    go : (o : Option Recording) → columns_in c ≡ o → recorded_as o ≡ some s
        → (d : ℕ) × (rs : List Record) × (columns_in c ≡ some (d, rs)) × (recording_bytes d rs ≡ s)
    go none p t = let z : ◌≡◌ {A = ℕ} 0 1 = cc in absurd (omega arith)
    go (some (d, rs)) p t = (d, rs, p, cc)

pub arranged_recorded : (s c : List ℕ) → Bytes s → arranged s ≡ some c → recorded c ≡ some s
arranged_recorded s c b e =
    let r = by_recording s c e in
    let d = r.0 in
    let rs = r.1 in
    let a = accepted s d rs b r.2 in
    ap recorded (sym r.4) ∙ ap recorded_as (columns_written d rs a.1 a.2 (omega (arith, r.3, ap length r.4))) ∙ ap some a.0

pub recorded_arranged : (c s : List ℕ) → Bytes c → recorded c ≡ some s → arranged s ≡ some c
recorded_arranged c s b e =
    let r = by_columns c s e in
    let d = r.0 in
    let rs = r.1 in
    let a = columns_accepted c d rs b r.2 in
    ap arranged (sym r.3)
    ∙ ap arranged_as (read_written d rs a.1 a.2)
    ∙ ap sized a.0
    ∙ ap (λ (x : Bool). cond x (some c) none) (size_fits_lem c a.3)

-- ---- the limit

-- the arrangement of a recording is 40 bytes longer
pub columns_size : (s : List ℕ) (d : ℕ) (rs : List Record) → Bytes s → recording_in s ≡ some (d, rs)
    → length (columns_bytes d rs) ≡ length s + 40
columns_size s d rs y e =
    let a = accepted s d rs y e in
    omega (arith, length_arrangement d rs a.1, length_recording d rs a.1, ap length a.0)

-- so "an arrangement past 4,294,967,295 bytes" is one of a file past 4,294,967,255
module _ (s : List ℕ) (d : ℕ) (rs : List Record) (y : Bytes s) (e : recording_in s ≡ some (d, rs)) where
  pub within_limit : length s ≤ 4294967255 → arranged s ≡ some (columns_bytes d rs)
  within_limit h = rw (e, size_fits_lem (columns_bytes d rs) (omega (arith, columns_size s d rs y e)))

  pub past_limit : 4294967255 < length s → arranged s ≡ none
  past_limit h = rw (e, size_past (columns_bytes d rs) (omega (arith, columns_size s d rs y e)))
