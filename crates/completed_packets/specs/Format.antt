-- The bytes of Number Of Completed Packets, and which pairs are of the form: Core Specification, Vol 4 Part E, 7.7.19, and
-- document 01's limits. Assumes nothing.
use Rattle.std.specs.Prelude.{ℕ, Bool, true, ◌&&◌, List, [], ◌∷◌, ◌++◌, map, length}
use Rattle.limits.specs.declared.Field.TheVariants as field
use Rattle.limits.specs.Limits.{within}
use Rattle.wire.specs.Wire.{le16}
use Rattle.hci.specs.Format.{event, handle_bits}
use Rattle.completed_packets.specs.declared.ConnHandleCompletedPackets.{ConnHandleCompletedPackets}

abbrev pub Pair : Type 0
Pair = ConnHandleCompletedPackets

-- the pairs stand one after another: handle and count, handle and count
unfoldable pub pairs_bytes : List Pair → List ℕ
pairs_bytes [] = []
pairs_bytes (p ∷ ps) = le16 p.handle ++ (le16 p.num_completed_packets ++ pairs_bytes ps)

abbrev pub completed_bytes : List Pair → List ℕ
completed_bytes ps = event 0x13 (length ps ∷ pairs_bytes ps)

unfoldable pub handles_fit : List Pair → Bool
handles_fit [] = true
handles_fit (p ∷ ps) = within field.Handle p.handle && handles_fit ps

-- "n (0 to 63)", "a handle above 0xEFF: 9"
abbrev pub pairs_of_form : List Pair → Bool
pairs_of_form ps = within field.Pairs (length ps) && handles_fit ps

-- "Handles use the low 12 bits; the rest is ignored on reading"
abbrev pub masked_pair : Pair → Pair
masked_pair p = record { handle = handle_bits p.handle; num_completed_packets = p.num_completed_packets }

abbrev pub masked_pairs : List Pair → List Pair
masked_pairs ps = map masked_pair ps
