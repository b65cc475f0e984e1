-- The tables and files of the cases. Assumes nothing.
use Rattle.std.specs.Prelude.{ℕ, ◌+◌, ◌-◌, ◌*◌, ◌/◌, ◌%◌, List, [], ◌∷◌, ◌++◌, length, replicate}
use Rattle.slot.specs.declared.LeConnRole.TheVariants.{Central}
use Rattle.slot.specs.declared.Address.{Address}
use Rattle.slot.specs.declared.ConnectionManager.{ConnectionManager}
use Rattle.slot.specs.Set.{set_refcount}
use Rattle.model.specs.Find.{slot_at}
use Rattle.model.specs.Calls.{Call, connects, put}
use Rattle.model.specs.History.{new, after}
use Rattle.table_rows.specs.Row.{address_values}
use Rattle.table_rows.specs.Shared.{address, peer, params, connect_to}

-- ---- tables

-- peers 1 and 2 connect in slots 0 and 1, to a Peripheral; peer 1 in slot 2 to a Central
abbrev pub connecting : List Call
connecting = connect_to 64 1 ∷ connect_to 65 2 ∷ connects 66 (peer 1) Central params ∷ []

abbrev pub waiting : ConnectionManager
waiting = after connecting (new 3 251 4).table

-- slot 0 has a reference
abbrev pub held : ConnectionManager
held = put waiting 0 (set_refcount (slot_at waiting 0) 1)

-- the peer of one Connecting slot
abbrev pub waiting_for : Address → ConnectionManager
waiting_for a = after (connects 64 a Central params ∷ []) (new 1 251 4).table

abbrev pub no_address : Address
no_address = address 0 0 0 0 0 0 0

-- ---- files

-- the bytes of a number of 16 bits, and of 32
abbrev pub two : ℕ → List ℕ
two n = n % 256 ∷ n / 256 % 256 ∷ []

abbrev four : ℕ → List ℕ
four n = two n ++ two (n / 65536)

-- a record's 14 bytes: peer, serial, role; the wanted MTU is 0xFFFF
abbrev pub entry : Address → (serial role : ℕ) → List ℕ
entry a serial role = address_values a ++ four serial ++ role ∷ 0xFF ∷ 0xFF ∷ []

-- a record of peer n
abbrev pub of : (n serial role : ℕ) → List ℕ
of n serial role = entry (peer n) serial role

-- the pairs of these records, the first at this offset, one right after another
abbrev pub pairs_at : ℕ → List (List ℕ) → List ℕ
pairs_at at [] = []
pairs_at at (r ∷ rs) = two at ++ two (length r) ++ pairs_at (at + length r) rs

abbrev pub concat : List (List ℕ) → List ℕ
concat [] = []
concat (r ∷ rs) = r ++ concat rs

-- the file of these records, with no gap
abbrev pub file : List (List ℕ) → List ℕ
file rs = two (length rs) ++ pairs_at (2 + 4 * length rs) rs ++ concat rs

-- one record of n bytes that starts with this kind, and has this role where one of 14 bytes has it
abbrev pub kind_role : (n kind role : ℕ) → List ℕ
kind_role n kind role = kind ∷ replicate 10 0 ++ role ∷ replicate (n - 12) 0
