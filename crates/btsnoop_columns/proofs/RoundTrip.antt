-- Reading and writing an arrangement are each other's inverse; the round trips of the definitions. Assumes nothing.
use Rattle.std.specs.Prelude.{ℕ, ◌+◌, ◌*◌, ◌<◌, ◌≤◌, ◌≡◌, refl, Bool, true, false, cond, List, [], ◌∷◌, ◌++◌, length, get_or, take, drop}
use Rattle.std.proofs.Common.{sym, ap, ◌∙◌, subst, append-nil, arith, le-leb, leb-true, eq-eqb, eqb-true, Fits, length-append}
use Rattle.std.proofs.Math.Option.{Option, none, some}
use Rattle.std.proofs.lemmas.Bool.{lt-leb}
use Rattle.std.specs.Int.{w8}
use Rattle.std.proofs.Math.Seq.{take-append_seam}
use Rattle.model.proofs.Laws.{and_left, and_right}
use Rattle.big_endian.specs.BigEndian.{be_at}
use Rattle.big_endian.specs.Laws.{Bytes, length_be}
use Rattle.btsnoop_read.specs.Format.{Record, header, is_datalink, records_bytes, recording_bytes, AllOfForm}
use Rattle.btsnoop_read.specs.Read.{Recording, is_header, datalink_in, recording_in}
use Rattle.btsnoop_read.proofs.Inverse.{head_16, header_length, datalink_back, header_back, header_in, read_written, accepted}
use Rattle.btsnoop_columns.specs.Format.{lengths, flags, drops, timestamp, bytes, column, differenced, data_length, places, numbers, columns, columns_bytes}
use Rattle.btsnoop_columns.specs.Read.{gathered, included_total, none_longer, stand, count_in, data_in, pairs_stand, length_is, bytes_agree, is_arranged, summed, gathered_in, columns_in, longest, size_fits, sized, arranged_as, arranged, recorded_as, recorded}
use Rattle.btsnoop_columns.specs.Statement.{ThereAndBack, BackAndThere, told, PairsTell, EachPairTells}
use Rattle.btsnoop_columns.proofs.Inverse.{and_both, form_differenced, form_summed, summed_differenced, differenced_summed, length_differenced, length_summed, data_differenced, data_summed, Below32, stand_written, number_at, length_numbers, stand_back, length_column, length_lengths, length_bytes_column, pass, total_written, longer_written, gathered_written, length_gathered, form_gathered, data_gathered, lengths_gathered, numbers_gathered, of_flags, of_drops, of_timestamp, bytes_gathered}

-- what the code knows of a slice of bytes
pub bytes_of : (s : List ℕ) → ((i : ℕ) → Fits w8 (get_or s i 0)) → Bytes s
bytes_of s f i = omega (arith, f i)

-- ---- the limit

pub size_fits_lem : (c : List ℕ) → length c ≤ 4294967295 → size_fits c ≡ true
size_fits_lem c h = le-leb (length c) longest (omega arith)

pub fits_size : (c : List ℕ) → size_fits c ≡ true → length c ≤ 4294967295
fits_size c e = omega (arith, leb-true (length c) longest e)

pub size_past : (c : List ℕ) → 4294967295 < length c → size_fits c ≡ false
size_past c h = lt-leb (length c) longest (omega arith)

-- ---- the lengths of an arrangement and of a recording

pub length_columns : (rs : List Record) → length (columns rs) ≡ 24 * length rs + data_length rs
length_columns rs =
    simp length-append
    (omega (
      arith,
      length_column lengths 8 length_lengths rs,
      length_column flags 4 (λ r. length_be 4 r.flags) rs,
      length_column drops 4 (λ r. length_be 4 r.drops) rs,
      length_column timestamp 8 (λ r. length_be 8 r.timestamp) rs,
      length_bytes_column rs,
    ))

pub length_arrangement : (d : ℕ) (rs : List Record) → is_datalink d ≡ true → length (columns_bytes d rs) ≡ 56 + 24 * length rs + data_length rs
length_arrangement d rs k =
    let q = numbers (places (length rs) (data_length rs)) ++ columns (differenced 0 rs) in
    omega (
      arith,
      header_length d q k,
      length-append (numbers (places (length rs) (data_length rs))) (columns (differenced 0 rs)),
      length_numbers (places (length rs) (data_length rs)),
      length_columns (differenced 0 rs),
      length_differenced 0 rs,
      data_differenced 0 rs,
    )

pub length_records : (rs : List Record) → length (records_bytes rs) ≡ 24 * length rs + data_length rs
unfolding records_bytes data_length
length_records [] = refl
length_records (r ∷ rs) = simp (length-append, length_be) (omega (arith, length_records rs))

pub length_recording : (d : ℕ) (rs : List Record) → is_datalink d ≡ true → length (recording_bytes d rs) ≡ 16 + 24 * length rs + data_length rs
length_recording d rs k = omega (arith, header_length d (records_bytes rs) k, length_records rs)

-- ---- an arrangement that was written is read

module _ (d : ℕ) (rs : List Record) (known : is_datalink d ≡ true) (form : AllOfForm rs) (small : length (columns_bytes d rs) ≤ 4294967295) where
  abbrev pub n : ℕ
  n = length rs

  abbrev pub m : ℕ
  m = data_length rs

  abbrev pub g : List Record
  g = differenced 0 rs

  abbrev pub c : List ℕ
  c = columns_bytes d rs

  pub size : length c ≡ 56 + 24 * n + m
  size = length_arrangement d rs known

  pub at_16 : drop 16 c ≡ numbers (places n m) ++ columns g
  at_16 = head_16 d (numbers (places n m) ++ columns g) known

  pub below_32 : Below32 (places n m)
  below_32 =
      let h = small in
      let k = size in
      (omega arith, (omega arith, (omega arith, (omega arith, (omega arith, (omega arith, (omega arith, (omega arith, (omega arith, (omega arith, tt))))))))))

  pub at_56 : drop 56 c ≡ columns g
  at_56 = pass c (numbers (places n m)) (columns g) 16 56 (omega (arith, length_numbers (places n m))) at_16

  pub count_back : count_in c ≡ n
  count_back = omega (arith, number_at (places n m) below_32 c (columns g) 16 1 (omega arith) at_16)

  pub data_back : data_in c ≡ m
  data_back = number_at (places n m) below_32 c (columns g) 16 9 (omega arith) at_16

  pub length_g : length g ≡ n
  length_g = length_differenced 0 rs

  pub col_f : drop (56 + 8 * n) c ≡ column flags g ++ (column drops g ++ (column timestamp g ++ column bytes g))
  col_f = pass c (column lengths g) _ 56 (56 + 8 * n) (omega (arith, length_g, length_column lengths 8 length_lengths g)) at_56

  pub col_d : drop (56 + 12 * n) c ≡ column drops g ++ (column timestamp g ++ column bytes g)
  col_d = pass c (column flags g) _ (56 + 8 * n) (56 + 12 * n) (omega (arith, length_g, length_column flags 4 (λ r. length_be 4 r.flags) g)) col_f

  pub col_t : drop (56 + 16 * n) c ≡ column timestamp g ++ column bytes g
  col_t = pass c (column drops g) _ (56 + 12 * n) (56 + 16 * n) (omega (arith, length_g, length_column drops 4 (λ r. length_be 4 r.drops) g)) col_d

  pub col_b : drop (56 + 24 * n) c ≡ column bytes g ++ []
  col_b =
      pass c (column timestamp g) _ (56 + 16 * n) (56 + 24 * n) (omega (arith, length_g, length_column timestamp 8 (λ r. length_be 8 r.timestamp) g)) col_t
      ∙ sym (append-nil (column bytes g))

  -- pair k tells of the column p that stands at its offset and has its length
  pub tells : (k : ℕ) (p q : List ℕ) → k < 5 → drop (get_or (places n m) (2 * k) 0) c ≡ p ++ q → length p ≡ get_or (places n m) (2 * k + 1) 0
      → told c k ≡ p
  tells k p q h e l =
      let x : 16 + 8 * k ≡ 16 + 4 * (2 * k) = omega arith in
      let y : 20 + 8 * k ≡ 16 + 4 * (2 * k + 1) = omega arith in
      let at : be_at 4 c (16 + 8 * k) ≡ get_or (places n m) (2 * k) 0 =
      ap (be_at 4 c) x ∙ number_at (places n m) below_32 c (columns g) 16 (2 * k) (omega arith) at_16 in
      let many : be_at 4 c (20 + 8 * k) ≡ length p =
      ap (be_at 4 c) y ∙ number_at (places n m) below_32 c (columns g) 16 (2 * k + 1) (omega arith) at_16 ∙ sym l in
      rw (at, many, e) (take-append_seam p q)

  pub pairs_tell : PairsTell c g
  pairs_tell =
      record {
        of_lengths = tells 0 (column lengths g) _ (omega arith) at_56 (omega (arith, length_g, length_column lengths 8 length_lengths g));
        of_flags = tells 1 (column flags g) _ (omega arith) col_f (omega (arith, length_g, length_column flags 4 (λ r. length_be 4 r.flags) g));
        of_drops = tells 2 (column drops g) _ (omega arith) col_d (omega (arith, length_g, length_column drops 4 (λ r. length_be 4 r.drops) g));
        of_timestamps = tells 3 (column timestamp g) _ (omega arith) col_t (omega (arith, length_g, length_column timestamp 8 (λ r. length_be 8 r.timestamp) g));
        of_bytes = tells 4 (column bytes g) [] (omega arith) col_b (length_bytes_column g ∙ data_differenced 0 rs);
      }

  pub form_g : AllOfForm g
  form_g = form_differenced 0 rs form

  pub total_back : included_total c n 56 ≡ m
  total_back =
      ap (λ (k : ℕ). included_total c k 56) (sym length_g) ∙ total_written g form_g c _ 56 at_56 ∙ data_differenced 0 rs

  pub longer_back : none_longer c n 56 ≡ true
  longer_back = ap (λ (k : ℕ). none_longer c k 56) (sym length_g) ∙ longer_written g form_g c _ 56 at_56

  pub arranged_back : is_arranged c ≡ true
  unfolding is_arranged
  arranged_back =
      rw (count_back, data_back)
      (and_both (eq-eqb (length c) (56 + 24 * n + m) size)
      (and_both (stand_written (places n m) below_32 c (columns g) 16 at_16)
      (and_both (eq-eqb (included_total c n 56) m total_back) (and_both longer_back (size_fits_lem c small)))))

  pub gather_back : gathered_in c ≡ g
  gather_back =
      rw count_back
      (ap (λ (k : ℕ). gathered c k 56 (56 + 8 * n) (56 + 12 * n) (56 + 16 * n) (56 + 24 * n)) (sym length_g)
      ∙ gathered_written g form_g c 56 (56 + 8 * n) (56 + 12 * n) (56 + 16 * n) (56 + 24 * n) _ _ _ _ [] at_56 col_f col_d col_t col_b)

  pub columns_written : columns_in c ≡ some (d, rs)
  columns_written =
      let q = numbers (places n m) ++ columns g in
      let r : summed 0 (gathered_in c) ≡ rs = ap (summed 0) gather_back ∙ summed_differenced 0 rs (omega arith) form in
      rw (header_back d q known, arranged_back, datalink_back d q known, r)

-- ---- an arrangement that is accepted is the one that is written

pub record Arranged (c : List ℕ) : Type 0 where
  pub size : length c ≡ 56 + 24 * count_in c + data_in c
  pub pairs : stand c 16 (places (count_in c) (data_in c)) ≡ true
  pub total : included_total c (count_in c) 56 ≡ data_in c
  pub none_longer_lem : none_longer c (count_in c) 56 ≡ true
  pub small : length c ≤ 4294967295

pub is_arranged_lem : (c : List ℕ) → is_arranged c ≡ true → Arranged c
unfolding is_arranged
is_arranged_lem c e =
    let r1 = and_right (length_is c) _ e in
    let r2 = and_right (pairs_stand c) _ r1 in
    let r3 = and_right (bytes_agree c) _ r2 in
    record {
      size = eqb-true _ _ (and_left (length_is c) _ e);
      pairs = and_left (pairs_stand c) _ r1;
      total = eqb-true _ _ (and_left (bytes_agree c) _ r2);
      none_longer_lem = and_left (none_longer c (count_in c) 56) _ r3;
      small = fits_size c (and_right (none_longer c (count_in c) 56) _ r3);
    }
