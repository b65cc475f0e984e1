-- The pairs that a list of bytes holds, if it is a Number Of Completed Packets. That this is the format's inverse is shown in
-- Inverse. Assumes nothing.
use Rattle.std.specs.Prelude.{ℕ, zero, suc, ◌+◌, ◌*◌, Bool, cond, List, [], ◌∷◌, get_or}
use Rattle.std.proofs.Math.Option.{Option, none, some}
use Rattle.wire.specs.Wire.{u16_at}
use Rattle.hci.specs.Read.{is_event}
use Rattle.completed_packets.specs.Format.{Pair, pairs_of_form, masked_pairs}

-- the pair at a position, with all bits of its handle
abbrev pub raw_pair_at : List ℕ → ℕ → Pair
raw_pair_at s at = record { handle = u16_at s at; num_completed_packets = u16_at s (at + 2) }

-- the n pairs from a position on
unfoldable pub raw_pairs : List ℕ → ℕ → ℕ → List Pair
raw_pairs s zero at = []
raw_pairs s (suc n) at = raw_pair_at s at ∷ raw_pairs s n (at + 4)

-- the number of pairs that the event says
abbrev pub said_pairs : List ℕ → ℕ
said_pairs s = get_or s 2 0

-- "length 1+4n, n, then n pairs"
abbrev pub is_completed : List ℕ → Bool
is_completed s = is_event 0x13 (1 + 4 * said_pairs s) s

-- the pairs with the handles' 12 bits
abbrev pub pairs_at : List ℕ → List Pair
pairs_at s = masked_pairs (raw_pairs s (said_pairs s) 3)

abbrev pub completed_in : List ℕ → Option (List Pair)
completed_in s = cond (is_completed s) (cond (pairs_of_form (pairs_at s)) (some (pairs_at s)) none) none
