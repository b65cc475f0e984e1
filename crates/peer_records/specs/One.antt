-- "For each peer exactly one record is in force if it has any readable one": `ExactlyOne`, the statement; it is proved in Latest. It
-- needs neither 22 nor 23: it holds of any bytes. Assumes nothing.
use Rattle.std.specs.Prelude.{ℕ, ◌<◌, ◌≤◌, ◌≡◌, true, List}
use Rattle.slot.specs.declared.Address.{Address}
use Rattle.peer_records.specs.Format.{count_in, record_at, is_readable, peer_in, serial_in}
use Rattle.peer_records.specs.Force.{in_force}

-- ---- the statement

-- a record of the file that is in force for the peer p, and the only one: of that peer's readable records the one with the highest serial,
-- of equal serials the last
pub record OneInForce (s : List ℕ) (p : Address) : Type 0 where
  pub which : ℕ
  pub below : which < count_in s
  pub in_force_lem : in_force s which ≡ true
  pub peer : (peer_in (record_at s which)) ≡ p
  pub highest : (j : ℕ) → j < count_in s → (is_readable (record_at s j)) ≡ true → (peer_in (record_at s j)) ≡ p
      → ((serial_in (record_at s j)) ≤ (serial_in (record_at s which))) × ((serial_in (record_at s j)) ≡ (serial_in (record_at s which)) → j ≤ which)
  pub only : (j : ℕ) → j < count_in s → in_force s j ≡ true → (peer_in (record_at s j)) ≡ p → j ≡ which

-- of any file and any peer that has a readable record, at i
unfoldable pub ExactlyOne : Type 0
ExactlyOne =
    (s : List ℕ) (p : Address) (i : ℕ) → i < count_in s → (is_readable (record_at s i)) ≡ true → (peer_in (record_at s i)) ≡ p → OneInForce s p
