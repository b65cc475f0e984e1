-- The text of the table, as docs/HISTORY.md has it. Assumes nothing.
use Rattle.std.specs.Prelude.{ℕ, ◌-◌, min, cond, List, [], ◌∷◌, ◌++◌, eqb}
use Rattle.pool.specs.declared.Pool.{Pool}
use Rattle.slot.specs.declared.ConnectionManager.{ConnectionManager}
use Rattle.model.specs.Find.{slot_at, well_formed}
use Rattle.model.specs.Calls.{lost_in}
use Rattle.text.specs.Text.{each}
use Rattle.text.specs.Ascii.{ascii}
use Rattle.number_text.specs.Number.{decimal_text, behind_text, numbers_text}
use Rattle.slot_text.specs.Slot.{slot_text}

-- numbers have one space between
abbrev space : ℕ
space = 32

-- LAST: the index of the slot last granted, `-` before any grant. The turn is one after it
abbrev pub last_text : ℕ → List ℕ
last_text turn = cond (eqb turn 0) (ascii " -") (behind_text space (turn - 1))

-- PACKETS FREE WAITING LAST
abbrev pub pool_text : Pool → List ℕ
pool_text p = numbers_text space (p.packets ∷ p.free ∷ p.waiting ∷ []) ++ last_text p.turn

-- LOST: what `total_lost` answers; 0 of a table out of bounds, which no history reaches
abbrev pub lost_number : ConnectionManager → ℕ
lost_number t = cond (well_formed t) (lost_in t) 0

-- DEFAULT_CREDITS DEFAULT_ATT_MTU LOST PACKETS FREE WAITING LAST
unfoldable pub head_text : ConnectionManager → List ℕ
head_text t =
    decimal_text t.default_link_credits
    ++ (numbers_text space (t.default_att_mtu ∷ lost_number t ∷ []) ++ pool_text t.pool)

-- ` / ` and the fields of the slot at an index
abbrev pub slot_behind : ConnectionManager → ℕ → List ℕ
slot_behind t i = ascii " / " ++ slot_text (slot_at t i)

-- each slot below the slot count; a table has at most sixteen
abbrev pub slots_text : ConnectionManager → List ℕ
slots_text t = each (slot_behind t) (min t.count 16) 0

abbrev pub table_text : ConnectionManager → List ℕ
table_text t = head_text t ++ slots_text t
