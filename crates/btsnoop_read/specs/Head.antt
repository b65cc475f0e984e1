-- Header and record by the tests that the code makes of them. Assumes nothing.
use Rattle.std.specs.Prelude.{ℕ, ◌+◌, ◌≤◌, ◌<◌, ◌≡◌, true, false, cond, Some, None, List, leb, length}
use Rattle.std.proofs.Common.{sym, ◌∙◌, arith}
use Rattle.std.proofs.Math.Bool.{and-false}
use borrow.Author.Tests.{le-leb, lt-leb, ne_eqb, eq-eqb}
use Rattle.big_endian.specs.BigEndian.{be_at}
use Rattle.btsnoop_read.specs.declared.RecordHead.{RecordHead}
use Rattle.big_endian.specs.Laws.{at_past}
use Rattle.btsnoop_read.specs.Format.{identification, is_datalink}
use Rattle.btsnoop_read.specs.Read.{is_header, is_whole, head_at, original_at, included_at, next_at}

module _ (s : List ℕ) (at : ℕ) where
  pub whole_short : length s < at + 24 → is_whole s at ≡ false
  unfolding is_whole
  whole_short h = rw (lt-leb (at + 24) (length s) h)

  pub whole_cut : length s < next_at s at → is_whole s at ≡ false
  unfolding is_whole
  whole_cut h = rw (lt-leb (next_at s at) (length s) h, and-false)

  pub whole_by : next_at s at ≤ length s → is_whole s at ≡ leb (included_at s at) (original_at s at)
  unfolding is_whole
  whole_by h = rw (le-leb (next_at s at) (length s) h, le-leb (at + 24) (length s) (omega arith))

  -- what is found where it is whole, and where not
  pub none_found : is_whole s at ≡ false → None ≡ cond (is_whole s at) (Some (head_at s at)) None
  none_found e = rw e

  pub found : is_whole s at ≡ true → {h : RecordHead} → h ≡ head_at s at → Some h ≡ cond (is_whole s at) (Some (head_at s at)) None
  found e f = rw (e, f)

-- ---- the header

module _ (s : List ℕ) where
  pub header_short : length s < 16 → is_header s ≡ false
  header_short h = rw (lt-leb 16 (length s) h)

  pub header_other : {x : ℕ} → x ≡ be_at 8 s 0 → (x ≡ identification → ⊥) → is_header s ≡ false
  header_other e h = rw (ne_eqb (be_at 8 s 0) identification (λ q. h (e ∙ q)), and-false)

  pub header_version : {x : ℕ} → x ≡ be_at 4 s 8 → (x ≡ 1 → ⊥) → is_header s ≡ false
  header_version e h = rw (ne_eqb (be_at 4 s 8) 1 (λ q. h (e ∙ q)), and-false, and-false)

  pub header_by : {x y z : ℕ} → 16 ≤ length s → x ≡ be_at 8 s 0 → x ≡ identification → y ≡ be_at 4 s 8 → y ≡ 1 → z ≡ be_at 4 s 12
      → is_datalink z ≡ is_header s
  header_by h e i f v g =
      rw (le-leb 16 (length s) h, eq-eqb (be_at 8 s 0) identification (sym e ∙ i), eq-eqb (be_at 4 s 8) 1 (sym f ∙ v), g)

-- ---- the numbers of a record past the end

pub head_past : (s : List ℕ) (at : ℕ) → length s ≤ at
    → ◌≡◌ {A = RecordHead} (record { original = 0; included = 0; flags = 0; drops = 0; timestamp = 0 }) (head_at s at)
head_past s at h k =
    record {
      original = at_past 4 s at h k;
      included = at_past 4 s (at + 4) (omega arith) k;
      flags = at_past 4 s (at + 8) (omega arith) k;
      drops = at_past 4 s (at + 12) (omega arith) k;
      timestamp = at_past 8 s (at + 16) (omega arith) k;
    }
