-- What 22 and 23 keep out. Of a file that is not refused with 22 each record stands behind the pairs, behind every record ahead of it, and
-- within the file; where 23 is not given either, kind and role of each readable record are 0 or 1. Assumes nothing.
use Rattle.std.specs.Prelude.{ℕ, ◌<◌, ◌≤◌, ◌≡◌, true, List, length}
use Rattle.peer_records.specs.Format.{count_in, offset_at, end_at, pairs_end, is_file, record_at, records_fit, is_readable, peer_in, role_in}

pub record Apart (s : List ℕ) : Type 0 where
  pub behind_pairs : (i : ℕ) → i < count_in s → pairs_end s ≤ offset_at s i
  pub behind : (i j : ℕ) → i < j → j < count_in s → end_at s i ≤ offset_at s j
  pub inside : (i : ℕ) → i < count_in s → end_at s i ≤ length s

unfoldable pub RecordsApart : Type 0
RecordsApart = (s : List ℕ) → is_file s ≡ true → Apart s

unfoldable pub ValuesFit : Type 0
ValuesFit =
    (s : List ℕ) → records_fit s ≡ true → (i : ℕ) → i < count_in s → (is_readable (record_at s i)) ≡ true
    → ((role_in (record_at s i)) ≤ 1) × ((peer_in (record_at s i)).kind ≤ 1)
