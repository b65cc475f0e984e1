-- Rows of the roster: "3 bytes (handle 16 bits, index 8) for each open slot", "by handle, smallest first, and equal handles by index".
-- Assumes nothing.
use Rattle.std.specs.Prelude.{ℕ, ◌+◌, List, [], ◌∷◌, replicate}
use Rattle.state.specs.declared.DisconnectReason.TheVariants.{AuthenticationFailure}
use Rattle.state.specs.declared.ConnectionState.{ConnectionState}
use Rattle.state.specs.declared.ConnectionState.TheVariants.{Disconnected, DisconnectRequest, Disconnecting, Connecting, Connected}
use Rattle.slot.specs.declared.ConnectionStorage.{ConnectionStorage}
use Rattle.slot.specs.declared.ConnectionManager.{ConnectionManager}
use Rattle.slot.specs.Fresh.{fresh_slot}
use Rattle.slot.specs.Set.{set_state, set_handle}
use Rattle.model.specs.Calls.{put}
use Rattle.model.specs.History.{fresh_table, no_table}
use Rattle.table_rows.specs.Tables.{queue_of}
use Rattle.all_rows.specs.Case.{Case, lists, enters, writes}

-- ---- tables

abbrev slot_of : ConnectionState → ℕ → ConnectionStorage
slot_of s h = set_handle (set_state fresh_slot s) h

-- a slot in each state, the closed one among the others; and one past the count, which is padding
-- The handles' order is not that of the indexes; two are equal; 0x1041 is above 0x0E00 by its upper four bits alone.
abbrev pub every_state : ConnectionManager
every_state =
    filled 0
    (slot_of Connecting 0x0E00
    ∷ slot_of Disconnected 0x0050
    ∷ slot_of Connected 0x0040
    ∷ slot_of (DisconnectRequest AuthenticationFailure) 0x1041
    ∷ slot_of (Disconnecting AuthenticationFailure) 0x0040
    ∷ slot_of Connected 0x0060
    ∷ [])
  where
    filled : ℕ → List ConnectionStorage → ConnectionManager
    filled i [] = fresh_table 5 251 4
    filled i (s ∷ ss) = put (filled (i + 1) ss) i s

-- 0x1040 in front of 0x0040
abbrev high_bits : ConnectionManager
high_bits = put (put (fresh_table 2 251 4) 0 (slot_of Connected 0x1040)) 1 (slot_of Connected 0x0040)

-- two slots, the second in this state
abbrev pub second : ConnectionState → ConnectionManager
second s = put (fresh_table 2 251 4) 1 (slot_of s 0x1040)

-- an open slot, and one whose queue count is out of bounds
abbrev bad_queue : ConnectionManager
bad_queue = put (put (fresh_table 2 251 4) 0 (slot_of Connected 0x0040)) 1 (queue_of 5)

-- n bytes 0xAA
abbrev pub slice : ℕ → List ℕ
slice n = replicate n 0xAA

-- ---- the rows

abbrev pub roster_cases : List Case
roster_cases =
    -- each open slot, requesting and disconnecting ones too; handles may repeat
    enters every_state (0x0E00 ∷ 0 ∷ 0x0040 ∷ 2 ∷ 0x1041 ∷ 3 ∷ 0x0040 ∷ 4 ∷ [])
    ∷ lists every_state (slice 12) 0 (12 ∷ [])
    ∷ lists every_state (slice 13) 0 (12 ∷ [])
    -- by handle, all 16 bits of it, equal handles by index; every byte past the roster as it was
    ∷ writes every_state (slice 13)
    (0x40 ∷ 0x00 ∷ 2 ∷ 0x40 ∷ 0x00 ∷ 4 ∷ 0x00 ∷ 0x0E ∷ 0 ∷ 0x41 ∷ 0x10 ∷ 3 ∷ 0xAA ∷ [])
    ∷ writes high_bits (slice 6) (0x40 ∷ 0x00 ∷ 1 ∷ 0x40 ∷ 0x10 ∷ 0 ∷ [])
    -- 10 where a byte is missing
    ∷ lists every_state (slice 11) 10 []
    ∷ writes every_state (slice 11) (slice 11)
    ∷ lists every_state [] 10 []
    -- nothing is open: no bytes
    ∷ enters (fresh_table 16 251 4) []
    ∷ lists (fresh_table 16 251 4) [] 0 (0 ∷ [])
    -- 8 before 10
    ∷ lists bad_queue (slice 12) 8 []
    ∷ writes bad_queue (slice 12) (slice 12)
    ∷ lists bad_queue [] 8 []
    ∷ lists no_table [] 8 []
    -- one open slot, state by state: its three bytes, and every byte past them as it was
    ∷ writes (second Connecting) (slice 3) (0x40 ∷ 0x10 ∷ 1 ∷ [])
    ∷ writes (second Connected) (slice 4) (0x40 ∷ 0x10 ∷ 1 ∷ 0xAA ∷ [])
    ∷ writes (second (DisconnectRequest AuthenticationFailure)) (slice 5) (0x40 ∷ 0x10 ∷ 1 ∷ 0xAA ∷ 0xAA ∷ [])
    ∷ writes (second (Disconnecting AuthenticationFailure)) (slice 3) (0x40 ∷ 0x10 ∷ 1 ∷ [])
    ∷ enters (second Disconnected) []
    -- 10 leaves the slice
    ∷ writes (second Connected) (slice 2) (0xAA ∷ 0xAA ∷ [])
    ∷ []
