-- Which record of a peer counts, and the peers of a role. Assumes nothing.
use Rattle.std.specs.Prelude.{ℕ, Option, zero, suc, Bool, cond, ◌&&◌, ◌||◌, not, List, [], ◌∷◌, eqb, ltb}
use Rattle.slot.specs.declared.Address.{Address}
use Rattle.slot.specs.declared.LeConnRole.{LeConnRole}
pub use Rattle.slot.specs.Role.{role_value}
use Rattle.model.specs.Calls.{same_address}
use Rattle.peer_records.specs.declared.PeerRecord.{PeerRecord}
use Rattle.peer_records.specs.Below.{all_below}
use Rattle.peer_records.specs.Format.{count_in, record_at, is_readable, peer_in, serial_in, role_in}

-- "Of records for the same peer the highest serial supersedes; of equal serials the later in the file": a, at j, supersedes b, at i
abbrev pub supersedes : Option PeerRecord → ℕ → Option PeerRecord → ℕ → Bool
supersedes a j b i =
    is_readable a
    && (same_address (peer_in a) (peer_in b) && (ltb (serial_in b) (serial_in a) || (eqb (serial_in b) (serial_in a) && ltb i j)))

-- the record i is readable, and no record of the file supersedes it, whatever the roles
abbrev pub in_force : List ℕ → ℕ → Bool
in_force s i =
    (is_readable (record_at s i)) && all_below (λ j. not (supersedes (record_at s j) j (record_at s i) i)) (count_in s)

-- "the records in force for its role"
abbrev pub in_force_for : List ℕ → LeConnRole → ℕ → Bool
in_force_for s r i = in_force s i && eqb (role_in (record_at s i)) (role_value r)

-- their peers, of the first n records
unfoldable pub peers_below : List ℕ → LeConnRole → ℕ → List Address
peers_below s r zero = []
peers_below s r (suc n) = cond (in_force_for s r n) ((peer_in (record_at s n)) ∷ peers_below s r n) (peers_below s r n)

abbrev pub peers_in : List ℕ → LeConnRole → List Address
peers_in s r = peers_below s r (count_in s)
