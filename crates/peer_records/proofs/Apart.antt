-- What 22 and 23 keep out. Of a file that is not refused with 22 each record stands behind the pairs, behind every record ahead of it, and
-- within the file; where 23 is not given either, kind and role of each readable record are 0 or 1. Assumes nothing.
use Rattle.std.specs.Prelude.{ℕ, Option, None, Some, zero, suc, ◌<◌, ◌≤◌, ◌≡◌, true, List, eqb, leb, length}
use Rattle.std.proofs.Common.{arith, sym, true≢false}
use borrow.Author.Tests.{leb-true, eqb-true, eqb-false}
use Rattle.model.proofs.Laws.{and_left, and_right, split}
use Rattle.peer_records.specs.declared.PeerRecord.{PeerRecord}
use Rattle.peer_records.specs.Below.{all_each}
use Rattle.peer_records.specs.Format.{count_in, offset_at, end_at, pairs_end, earliest, pair_fits, is_file, record_at, is_readable, peer_in, role_in, record_fits}
use Rattle.peer_records.specs.Apart.{RecordsApart, ValuesFit}

module _ (s : List ℕ) (e : is_file s ≡ true) where
  each : (i : ℕ) → i < count_in s → pair_fits s i ≡ true
  each = all_each (pair_fits s) (count_in s) (and_right (leb (pairs_end s) (length s)) _ (and_right (leb 2 (length s)) _ e))

  first : 0 < count_in s → pairs_end s ≤ offset_at s 0
  unfolding earliest
  first h = leb-true _ _ (and_left (leb (earliest s 0) (offset_at s 0)) _ (each 0 h))

  next : (i : ℕ) → suc i < count_in s → end_at s i ≤ offset_at s (suc i)
  unfolding earliest
  next i h = leb-true _ _ (and_left (leb (earliest s (suc i)) (offset_at s (suc i))) _ (each (suc i) h))

  from_pairs : (i : ℕ) → i < count_in s → pairs_end s ≤ offset_at s i
  from_pairs zero h = first h
  from_pairs (suc i) h = omega (arith, from_pairs i (omega arith), next i h)

  ahead : (i j : ℕ) → i < j → j < count_in s → end_at s i ≤ offset_at s j
  ahead i zero l h = absurd (omega arith)
  ahead i (suc j) l h =
      split (eqb i j)
      (λ q. let p = eqb-true i j q in rw p (next j h))
      (λ q. omega (arith, ahead i j (omega (arith, eqb-false i j q)) (omega arith), next j h))

pub records_apart : RecordsApart
unfolding RecordsApart
records_apart s e =
    record {
      behind_pairs = from_pairs s e;
      behind = ahead s e;
      inside = λ i h. leb-true _ _ (and_right (leb (earliest s i) (offset_at s i)) _ (each s e i h));
    }

fitting : (r : Option PeerRecord) → record_fits r ≡ true → is_readable r ≡ true → (role_in r ≤ 1) × ((peer_in r).kind ≤ 1)
fitting None f h = absurd (true≢false (sym h))
fitting (Some r) f h = (leb-true _ _ (and_left (leb r.role 1) _ f), leb-true _ _ (and_right (leb r.role 1) _ f))

pub values_fit : ValuesFit
unfolding ValuesFit
values_fit s e i h r = fitting (record_at s i) (all_each (λ i. record_fits (record_at s i)) (count_in s) e i h) r
