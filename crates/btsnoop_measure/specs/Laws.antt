-- A record further: what the loop goes by. Assumes nothing.
use Rattle.std.specs.Prelude.{ℕ, ◌+◌, ◌<◌, ◌≤◌, ◌≡◌, Bool, true, false, cond, Result, Ok, Err, List, length}
use Rattle.std.specs.Result.{is_ok}
use Rattle.std.proofs.Common.{refl, sym, ap, ◌∙◌, arith}
use Rattle.btsnoop_read.proofs.Inverse.{length_bytes}
use Rattle.btsnoop_read.specs.Read.{Records, next_at, is_whole, records_at}
use Rattle.btsnoop_read.specs.Laws.{Found, whole, records_next, records_cut, records_end}
use Rattle.btsnoop_columns.specs.Format.{data_length}
use Rattle.btsnoop_read.specs.declared.RecordHead.{RecordHead}
use Rattle.btsnoop_measure.specs.declared.Measured.{Measured}
use Rattle.btsnoop_measure.specs.Measure.{total, measured_of}

-- with the records from a position on, m is what all of them make
pub record Counts (m : Measured) (s : List ℕ) (at : ℕ) (all : Records) : Type 0 where
  pub records : m.records + length (records_at s at).records ≡ length all.records
  pub bytes : m.bytes + data_length (records_at s at).records ≡ data_length all.records
  pub whole : (records_at s at).whole ≡ all.whole

module _ (s : List ℕ) (m : Measured) (at : ℕ) (all : Records) (k : Counts m s at all) where
  pub counts_next : {h : RecordHead} → Found s at h → {to : ℕ} → to ≡ at + 24 + h.included
      → Counts (record { records = m.records + 1; bytes = m.bytes + h.included }) s to all
  unfolding data_length
  counts_next {h} f {to} e =
      let n = records_next s at (omega (arith, f.within)) f.whole in
      let t : to ≡ next_at s at = omega (arith, f.included) in
      let b = length_bytes s at (whole s at f.whole) in
      let x : records_at s to ≡ records_at s (next_at s at) = ap (records_at s) t in
      record {
        records = omega (arith, k.records, ap (λ (w : Records). length w.records) n, ap (λ (w : Records). length w.records) x);
        bytes = omega (arith, k.bytes, f.included, b, ap (λ (w : Records). data_length w.records) n, ap (λ (w : Records). data_length w.records) x);
        whole = ap (λ (w : Records). w.whole) x ∙ sym (ap (λ (w : Records). w.whole) n) ∙ k.whole;
      }

  pub counted_cut : at < length s → is_whole s at ≡ false → Err m ≡ measured_of all
  unfolding data_length
  counted_cut h e =
      let n = records_cut s at h e in
      let p : m.records ≡ length all.records = omega (arith, k.records, ap (λ (w : Records). length w.records) n) in
      let q : m.bytes ≡ data_length all.records = omega (arith, k.bytes, ap (λ (w : Records). data_length w.records) n) in
      let f : all.whole ≡ false = sym k.whole ∙ ap (λ (w : Records). w.whole) n in
      rw f (λ i. Err (record { records = p i; bytes = q i }))

  pub counted_all : length s ≤ at → Ok m ≡ measured_of all
  unfolding data_length
  counted_all h =
      let n = records_end s at h in
      let p : m.records ≡ length all.records = omega (arith, k.records, ap (λ (w : Records). length w.records) n) in
      let q : m.bytes ≡ data_length all.records = omega (arith, k.bytes, ap (λ (w : Records). data_length w.records) n) in
      let f : all.whole ≡ true = sym k.whole ∙ ap (λ (w : Records). w.whole) n in
      rw f (λ i. Ok (record { records = p i; bytes = q i }))

-- ---- what was answered

abbrev either : Result Measured Measured → Measured
either (Ok m) = m
either (Err m) = m

is_whole_by : (b : Bool) (m : Measured) → is_ok {E = Measured} (cond b (Ok m) (Err m)) ≡ b
is_whole_by true m = refl
is_whole_by false m = refl

either_by : (b : Bool) (m : Measured) → either (cond b (Ok m) (Err m)) ≡ m
either_by true m = refl
either_by false m = refl

module _ (w : Records) (m : Measured) {r : Result Measured Measured} (e : r ≡ measured_of w) where
  pub was_whole : r ≡ Ok m → w.whole ≡ true
  was_whole f = sym (is_whole_by w.whole (total w.records)) ∙ ap is_ok (sym e ∙ f)

  pub was_cut : r ≡ Err m → w.whole ≡ false
  was_cut f = sym (is_whole_by w.whole (total w.records)) ∙ ap is_ok (sym e ∙ f)

  pub was_total : r ≡ Ok m → m ≡ total w.records
  was_total f = sym (sym (either_by w.whole (total w.records)) ∙ ap either (sym e ∙ f))
