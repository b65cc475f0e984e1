-- The records taken from the columns one after another: what the proofs of `from_columns` cite. Assumes nothing.
use Rattle.std.specs.Prelude.{◌≡◌, ℕ, suc, ◌+◌, ◌-◌, ◌*◌, ◌%◌, ◌^◌, ◌<◌, ◌≤◌, Bool, true, false, Ok, Err, ◌&&◌, List, [], ◌∷◌, ◌++◌, length, take, drop, ◌==◌, ◌≢◌, nat_le}
use Rattle.std.proofs.Common.{sym, ap, ◌∙◌, length-drop, length-take-le}
use Rattle.std.proofs.Math.Bool.{and-false, and-true, and_assoc}
use Rattle.std.proofs.Math.Option.{Option, some}
use native.Mathlib.Omega.{arith}
use borrow.Author.Tests.{le-leb, lt-leb, eq-eqb, ne_eqb}
use Rattle.std.proofs.lemmas.List.Edits.{sets}
use Rattle.model.specs.Answer.{Refusal, ok}
use Rattle.model.proofs.Laws.{one_more, none_left}
use Rattle.wire.specs.Wire.{writing, written}
use Rattle.big_endian.specs.BigEndian.{be_at}
use Rattle.big_endian.specs.Laws.{Bytes}
use Rattle.big_endian_write.specs.Laws.{put_behind}
use Rattle.btsnoop_read.specs.Format.{Record, record_of, record_bytes, records_bytes, header, recording_bytes}
use Rattle.btsnoop_read.specs.Read.{is_header, datalink_in}
use Rattle.btsnoop_put.specs.Put.{put_record, put_whole, length_record, length_header}
use Rattle.btsnoop_columns.specs.Format.{places}
use Rattle.btsnoop_columns.specs.Read.{gathered, included_total, none_longer, stand, count_in, data_in, size_fits, is_arranged, summed, gathered_in, columns_in, recorded}
use Rattle.btsnoop_columns.proofs.RoundTrip.{length_arrangement, length_recording}
use Rattle.btsnoop_columns.proofs.Accepted.{columns_accepted}
use Rattle.btsnoop_columns.proofs.Left.{wrote, unwritten, from_columns_past}
use Rattle.btsnoop_columns.specs.Answer.{written_of, from_columns_of, from_columns_left}
use Rattle.from_columns.specs.Answer.{from_columns_reply}

-- ---- the lengths

module _ (c : List ℕ) (n i : ℕ) where
  pub total_next : i < n
      → included_total c (n - i) (56 + 8 * i) ≡ be_at 4 c (56 + 8 * i + 4) + included_total c (n - (i + 1)) (56 + 8 * (i + 1))
  unfolding included_total
  total_next h = let p : 56 + 8 * (i + 1) ≡ 56 + 8 * i + 8 = omega arith in rw (one_more n i h, p)

  pub longer_next : i < n
      → none_longer c (n - i) (56 + 8 * i)
      ≡ (nat_le (be_at 4 c (56 + 8 * i + 4)) (be_at 4 c (56 + 8 * i)) && none_longer c (n - (i + 1)) (56 + 8 * (i + 1)))
  unfolding none_longer
  longer_next h = let p : 56 + 8 * (i + 1) ≡ 56 + 8 * i + 8 = omega arith in rw (one_more n i h, p)

  pub total_end : n ≤ i → included_total c (n - i) (56 + 8 * i) ≡ 0
  unfolding included_total
  total_end h = rw (none_left n i h)

  pub longer_end : n ≤ i → none_longer c (n - i) (56 + 8 * i) ≡ true
  unfolding none_longer
  longer_end h = rw (none_left n i h)

  pub not_longer : i < n → {x y : ℕ} → x ≡ be_at 4 c (56 + 8 * i) → y ≡ be_at 4 c (56 + 8 * i + 4) → y ≤ x
      → none_longer c (n - i) (56 + 8 * i) ≡ none_longer c (n - (i + 1)) (56 + 8 * (i + 1))
  not_longer h p q k = longer_next h ∙ rw (le-leb (be_at 4 c (56 + 8 * i + 4)) (be_at 4 c (56 + 8 * i)) (omega arith))

  pub longer : i < n → {x y : ℕ} → x ≡ be_at 4 c (56 + 8 * i) → y ≡ be_at 4 c (56 + 8 * i + 4) → x < y
      → none_longer c (n - i) (56 + 8 * i) ≡ false
  longer h p q k = longer_next h ∙ rw (lt-leb (be_at 4 c (56 + 8 * i + 4)) (be_at 4 c (56 + 8 * i)) (omega arith))

module _ (c : List ℕ) (n : ℕ) where
  pub total_start : included_total c n 56 ≡ included_total c (n - 0) (56 + 8 * 0)
  total_start = let z : n - 0 ≡ n = omega arith in rw z

  pub longer_start : none_longer c n 56 ≡ none_longer c (n - 0) (56 + 8 * 0)
  longer_start = let z : n - 0 ≡ n = omega arith in rw z

  pub disagree : (b : ℕ) → none_longer c n 56 ≡ false → false ≡ (included_total c n 56 == b && none_longer c n 56)
  disagree b e = rw (e, and-false)

  pub agree : (b : ℕ) {x : ℕ} → x ≡ included_total c n 56 → none_longer c n 56 ≡ true
      → (x == b) ≡ (included_total c n 56 == b && none_longer c n 56)
  agree b e h = rw (e, h, and-true)

-- ---- the pairs: each test that fails, and all

abbrev pub pair_at : List ℕ → ℕ → ℕ → ℕ → Bool
pair_at c at x y = be_at 4 c at == x && be_at 4 c (at + 4) == y

pub pair_other : (c : List ℕ) (at x y : ℕ) {r : ℕ} → r ≡ be_at 4 c at → (r ≢ x) → false ≡ pair_at c at x y
pair_other c at x y e h = rw (ne_eqb (be_at 4 c at) x (λ q. h (e ∙ q)))

pub pair_by : (c : List ℕ) (at x y : ℕ) {r k : ℕ} → r ≡ be_at 4 c at → r ≡ x → k ≡ be_at 4 c (at + 4) → (k == y) ≡ pair_at c at x y
pair_by c at x y e h f = rw (eq-eqb (be_at 4 c at) x (sym e ∙ h), f)

module _ (c : List ℕ) (n b : ℕ) where
  pub pairs_are :
      stand c 16 (places n b)
      ≡ (pair_at c 16 56 (8 * n)
      && (pair_at c 24 (56 + 8 * n) (4 * n)
      && (pair_at c 32 (56 + 12 * n) (4 * n) && (pair_at c 40 (56 + 16 * n) (8 * n) && pair_at c 48 (56 + 24 * n) b))))
  unfolding stand
  pairs_are = simp (and_assoc, and-true)

-- the test of `is_arranged` that the code makes last
pub arranged_size : (c : List ℕ) → (length c ≢ 56 + 24 * count_in c + data_in c) → is_arranged c ≡ false
unfolding is_arranged
arranged_size c h = rw (ne_eqb (length c) (56 + 24 * count_in c + data_in c) h)

module _ (c : List ℕ) where
  pub arranged_pairs : stand c 16 (places (count_in c) (data_in c)) ≡ false → is_arranged c ≡ false
  unfolding is_arranged
  arranged_pairs e = rw (e, and-false)

  pub arranged_lengths : (included_total c (count_in c) 56 == data_in c && none_longer c (count_in c) 56) ≡ false → is_arranged c ≡ false
  unfolding is_arranged
  arranged_lengths e =
      let f = and_assoc (included_total c (count_in c) 56 == data_in c) (none_longer c (count_in c) 56) (size_fits c) in
      rw (← f, e, and-false, and-false)

  pub arranged_by : length c ≡ 56 + 24 * count_in c + data_in c → stand c 16 (places (count_in c) (data_in c)) ≡ true
      → (included_total c (count_in c) 56 == data_in c && none_longer c (count_in c) 56) ≡ true
      → size_fits c ≡ is_arranged c
  unfolding is_arranged
  arranged_by h e g =
      let f = and_assoc (included_total c (count_in c) 56 == data_in c) (none_longer c (count_in c) 56) (size_fits c) in
      rw (← f, eq-eqb (length c) (56 + 24 * count_in c + data_in c) h, e, g)

-- ---- a record further

-- the bytes of the records from i on, whose own bytes stand at `from`
abbrev pub rest_from : List ℕ → ℕ → ℕ → ℕ → ℕ → List ℕ
rest_from c n before i from =
    records_bytes (summed before (gathered c (n - i) (56 + 8 * i) (56 + 8 * n + 4 * i) (56 + 12 * n + 4 * i) (56 + 16 * n + 8 * i) from))

gathered_step : (c : List ℕ) (k m l f d t b l' f' d' t' : ℕ) → k ≡ suc m → l' ≡ l + 8 → f' ≡ f + 4 → d' ≡ d + 4 → t' ≡ t + 8
    → gathered c k l f d t b
    ≡ record_of (be_at 4 c l) (be_at 4 c f) (be_at 4 c d) (be_at 8 c t) (take (be_at 4 c (l + 4)) (drop b c))
    ∷ gathered c m l' f' d' t' (b + be_at 4 c (l + 4))
unfolding gathered
gathered_step c k m l f d t b l' f' d' t' e p q r s = rw (e, p, q, r, s)

module _ (c : List ℕ) (n i from before : ℕ) (h : i < n) where
  rest_next : (o v f d t : ℕ) → o ≡ be_at 4 c (56 + 8 * i) → v ≡ be_at 4 c (56 + 8 * i + 4) → f ≡ be_at 4 c (56 + 8 * n + 4 * i)
      → d ≡ be_at 4 c (56 + 12 * n + 4 * i) → t ≡ (before + be_at 8 c (56 + 16 * n + 8 * i)) % 2 ^ 64
      → rest_from c n before i from ≡ record_bytes (record_of o f d t (take v (drop from c))) ++ rest_from c n t (i + 1) (from + v)
  unfolding summed records_bytes
  rest_next o v f d t eo ev ef ed et =
      rw (eo, ev, ef, ed, et)
      (ap (λ (rs : List Record). records_bytes (summed before rs))
      (gathered_step c (n - i) (n - (i + 1)) (56 + 8 * i) (56 + 8 * n + 4 * i) (56 + 12 * n + 4 * i) (56 + 16 * n + 8 * i) from
      (56 + 8 * (i + 1)) (56 + 8 * n + 4 * (i + 1)) (56 + 12 * n + 4 * (i + 1)) (56 + 16 * n + 8 * (i + 1))
      (one_more n i h) (omega arith) (omega arith) (omega arith) (omega arith)))

  pub rest_put : (o v f d t : ℕ) → o ≡ be_at 4 c (56 + 8 * i) → v ≡ be_at 4 c (56 + 8 * i + 4) → f ≡ be_at 4 c (56 + 8 * n + 4 * i)
      → d ≡ be_at 4 c (56 + 12 * n + 4 * i) → t ≡ (before + be_at 8 c (56 + 16 * n + 8 * i)) % 2 ^ 64
      → (out next : List ℕ) (at : ℕ) → from + v ≤ length c → at + 24 + v ≤ length out
      → next ≡ put_record out at (record_of o f d t (take (from + v - from) (drop from c)))
      → sets out at (rest_from c n before i from) ≡ sets next (at + 24 + v) (rest_from c n t (i + 1) (from + v))
  rest_put o v f d t eo ev ef ed et out next at k l e =
      let r = record_of o f d t (take v (drop from c)) in
      let p : from + v - from ≡ v = omega arith in
      let m : length (take v (drop from c)) ≡ v = length-take-le v (drop from c) (omega (arith, length-drop from c)) in
      let w : next ≡ sets out at (record_bytes r) =
      e ∙ ap (λ (z : ℕ). put_record out at (record_of o f d t (take z (drop from c)))) p ∙ put_whole out at r (omega arith) in
      ap (sets out at) (rest_next o v f d t eo ev ef ed et)
      ∙ put_behind (record_bytes r) (rest_from c n t (i + 1) (from + v)) out next at (at + 24 + v) w (omega (arith, length_record r))

pub rest_end : (c : List ℕ) (n i from before : ℕ) → n ≤ i → rest_from c n before i from ≡ []
unfolding gathered summed records_bytes
rest_end c n i from before h = rw (none_left n i h)

pub rest_all : (c : List ℕ) (n : ℕ) → rest_from c n 0 0 (56 + 24 * n)
    ≡ records_bytes (summed 0 (gathered c n 56 (56 + 8 * n) (56 + 12 * n) (56 + 16 * n) (56 + 24 * n)))
rest_all c n =
    let p : 56 + 8 * n + 4 * 0 ≡ 56 + 8 * n = omega arith in
    let q : 56 + 12 * n + 4 * 0 ≡ 56 + 12 * n = omega arith in
    let r : 56 + 16 * n + 8 * 0 ≡ 56 + 16 * n = omega arith in
    let z : n - 0 ≡ n = omega arith in
    rw (p, q, r, z)

-- ---- the whole

module _ (c out : List ℕ) where
  pub no_header : is_header c ≡ false → (from_columns_reply (Err Refusal.Header) ≡ from_columns_of c out) × (out ≡ from_columns_left c out)
  no_header h = (rw h, rw h)

  pub not_arranged_lem : is_header c ≡ true → is_arranged c ≡ false → (from_columns_reply (Err Refusal.Columns) ≡ from_columns_of c out) × (out ≡ from_columns_left c out)
  not_arranged_lem h a = (rw (h, a), rw (h, a))

module _ (c : List ℕ) (y : Bytes c) (h : is_header c ≡ true) (a : is_arranged c ≡ true) where
  abbrev d : ℕ
  d = datalink_in c

  abbrev rs : List Record
  rs = summed 0 (gathered_in c)

  pub recording_size : length (recording_bytes d rs) + 40 ≡ length c
  recording_size =
      let e : columns_in c ≡ some (d, rs) = rw (h, a) in
      let t = columns_accepted c d rs y e in
      omega (arith, length_arrangement d rs t.1, length_recording d rs t.1, ap length t.0)

  past : (out : List ℕ) → (writing true (recording_bytes d rs) out ≡ from_columns_of c out) × (written true (recording_bytes d rs) out ≡ from_columns_left c out)
  past out =
      let e : recorded c ≡ some (recording_bytes d rs) = rw (h, a) in
      (sym (from_columns_past c out _ h e), ap (λ (x : Option (List ℕ)). written_of x out) (sym e))

  pub no_room : (out : List ℕ) → length out < length c - 40 → (from_columns_reply (Err Refusal.Space) ≡ from_columns_of c out) × (out ≡ from_columns_left c out)
  no_room out k =
      let u = unwritten (recording_bytes d rs) out (omega (arith, recording_size)) in
      (u.0 ∙ (past out).0, u.1 ∙ (past out).1)

  pub all_written : (out head now : List ℕ) {k n : ℕ} → k ≡ d → n ≡ count_in c → length c - 40 ≤ length out
      → head ≡ sets out 0 (header k) → now ≡ sets head 16 (rest_from c n 0 0 (56 + 24 * n))
      → (from_columns_reply (Ok (length c - 40)) ≡ from_columns_of c out) × (now ≡ from_columns_left c out)
  all_written out head now {k} {n} p q l e g =
      let m = recording_bytes d rs in
      let z : length c - 40 ≡ length m = omega (arith, recording_size) in
      let e1 : head ≡ sets out 0 (header d) = e ∙ ap (λ (x : ℕ). sets out 0 (header x)) p in
      let g1 : now ≡ sets head 16 (records_bytes rs) =
      g ∙ ap (sets head 16) (rest_all c n ∙ ap (λ (x : ℕ). records_bytes (summed 0 (gathered c x 56 (56 + 8 * x) (56 + 12 * x) (56 + 16 * x) (56 + 24 * x)))) q) in
      let w = put_behind (header d) (records_bytes rs) out head 0 16 e1 (omega (arith, length_header d)) in
      let u = wrote m out now (omega arith) (g1 ∙ sym w) in
      (ap (λ (x : ℕ). ok (x ∷ [])) z ∙ u.0 ∙ (past out).0, u.1 ∙ (past out).1)
