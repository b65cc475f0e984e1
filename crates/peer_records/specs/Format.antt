-- A file of peer records, and when it is refused: document 02, L13. "The file is a 16-bit count, then pairs of offset and length
-- (16 bits), sorted by offset, records after them, little-endian." Assumes nothing.
use Rattle.std.specs.Prelude.{ℕ, zero, suc, ◌+◌, ◌*◌, ◌<◌, ◌≤◌, ◌≡◌, Bool, true, false, cond, ◌&&◌, Option, None, Some, List, eqb, leb, length, get_or}
use Rattle.std.proofs.Math.Path.{ap}
use Rattle.std.proofs.Math.Bool.{and-false}
use Rattle.std.proofs.Common.{add-one, arith, le-leb}
use Rattle.std.proofs.lemmas.Bool.{lt-leb}
use Rattle.slot.specs.declared.Address.{Address}
use Rattle.wire.specs.Wire.{u16_at}
use Rattle.peer_records.specs.declared.PeerRecord.{PeerRecord}
use Rattle.peer_records.specs.Below.{all_below}

abbrev pub count_in : List ℕ → ℕ
count_in s = u16_at s 0

-- ---- the pairs

-- the pair i
abbrev pub offset_at : List ℕ → ℕ → ℕ
offset_at s i = u16_at s (2 + 4 * i)

abbrev pub length_at : List ℕ → ℕ → ℕ
length_at s i = u16_at s (2 + 4 * i + 2)

abbrev pub end_at : List ℕ → ℕ → ℕ
end_at s i = offset_at s i + length_at s i

abbrev pub pairs_end : List ℕ → ℕ
pairs_end s = 2 + 4 * count_in s

-- where the record i may start: at "the end of the one ahead (the first: of the pairs)"
unfoldable pub earliest : List ℕ → ℕ → ℕ
earliest s zero = pairs_end s
earliest s (suc i) = end_at s i

-- the record i does not start before that, and its pair does not reach "outside the file"
abbrev pub pair_fits : List ℕ → ℕ → Bool
pair_fits s i = leb (earliest s i) (offset_at s i) && leb (end_at s i) (length s)

-- 22 where it is false: the count, the pairs that it says, and each pair
abbrev pub is_file : List ℕ → Bool
is_file s = leb 2 (length s) && (leb (pairs_end s) (length s) && all_below (pair_fits s) (count_in s))

-- ---- the records

abbrev pub u32_at : List ℕ → ℕ → ℕ
u32_at s at = u16_at s at + 65536 * u16_at s (at + 2)

abbrev pub peer_at : List ℕ → ℕ → Address
peer_at s at =
    record {
      kind = get_or s at 0;
      addr = record {
        0 = get_or s (at + 1) 0;
        1 = get_or s (at + 2) 0;
        2 = get_or s (at + 3) 0;
        3 = get_or s (at + 4) 0;
        4 = get_or s (at + 5) 0;
        5 = get_or s (at + 6) 0;
      };
    }

-- "A record is peer kind, six address bytes, a 32-bit serial, role, 16-bit wanted MTU (unused)"
abbrev pub record_of : List ℕ → ℕ → PeerRecord
record_of s at = record { peer = peer_at s at; serial = u32_at s (at + 7); role = get_or s (at + 11) 0 }

-- the record i: "A length other than 14 is a record of a newer form and passed over": none of its bytes is read
unfoldable pub record_at : List ℕ → ℕ → Option PeerRecord
record_at s i = cond (eqb (length_at s i) 14) (Some (record_of s (offset_at s i))) None

-- what a record has, zeros where it is passed over
abbrev pub is_readable : Option PeerRecord → Bool
is_readable None = false
is_readable (Some r) = true

abbrev pub peer_in : Option PeerRecord → Address
peer_in None = record { kind = 0; addr = record { 0 = 0; 1 = 0; 2 = 0; 3 = 0; 4 = 0; 5 = 0 } }
peer_in (Some r) = r.peer

abbrev pub serial_in : Option PeerRecord → ℕ
serial_in None = 0
serial_in (Some r) = r.serial

abbrev pub role_in : Option PeerRecord → ℕ
role_in None = 0
role_in (Some r) = r.role

-- not "a role or kind above 1 in a record of 14 bytes"
abbrev pub record_fits : Option PeerRecord → Bool
record_fits None = true
record_fits (Some r) = leb r.role 1 && leb r.peer.kind 1

-- 23 where it is false
abbrev pub records_fit : List ℕ → Bool
records_fit s = all_below (λ i. record_fits (record_at s i)) (count_in s)

-- ---- a pair further: what the code's proofs cite

module _ (s : List ℕ) where
  pub earliest_first : {n : ℕ} → n ≡ count_in s → 2 + 4 * n ≡ earliest s 0
  unfolding earliest
  earliest_first e = ap (λ (k : ℕ). 2 + 4 * k) e

  pub earliest_next : (i : ℕ) → earliest s (i + 1) ≡ end_at s i
  unfolding earliest
  earliest_next i = rw (add-one i)

  module _ (i : ℕ) {ahead : ℕ} (e : ahead ≡ earliest s i) where
    pub pair_early : offset_at s i < ahead → pair_fits s i ≡ false
    pair_early l = rw (lt-leb (earliest s i) (offset_at s i) (omega arith))

    pub pair_outside : length s < end_at s i → pair_fits s i ≡ false
    pair_outside l = rw (lt-leb (end_at s i) (length s) l) (and-false (leb (earliest s i) (offset_at s i)))

    pub pair_fits_lem : ahead ≤ offset_at s i → end_at s i ≤ length s → pair_fits s i ≡ true
    pair_fits_lem l m = rw (le-leb (earliest s i) (offset_at s i) (omega arith), le-leb (end_at s i) (length s) m)

  pub file_tiny : length s < 2 → is_file s ≡ false
  file_tiny h = rw (lt-leb 2 (length s) h)

  pub file_short : {n : ℕ} → n ≡ count_in s → length s < 2 + 4 * n → is_file s ≡ false
  file_short {n} e h =
      rw (lt-leb (pairs_end s) (length s) (omega arith)) (and-false (leb 2 (length s)))

  pub file_by : {n : ℕ} → n ≡ count_in s → 2 + 4 * n ≤ length s → all_below (pair_fits s) n ≡ is_file s
  file_by {n} e h =
      rw (le-leb 2 (length s) (omega arith), le-leb (pairs_end s) (length s) (omega arith)) (ap (all_below (pair_fits s)) e)
