-- Waiting slots as the bits of a word, and whose turn it is. Assumes nothing.
use Rattle.std.specs.Prelude.{ℕ, zero, suc, ◌+◌, ◌-◌, ◌*◌, ◌/◌, ◌%◌, Bool, cond, eqb}

-- whether slot i waits: the bits are taken lowest first
unfoldable pub waits : ℕ → ℕ → Bool
waits zero w = eqb (w % 2) 1
waits (suc i) w = waits i (w / 2)

-- the word with the bit of slot i set (1) or not (0)
unfoldable pub with_wait : ℕ → ℕ → ℕ → ℕ
with_wait zero b w = w / 2 * 2 + b
with_wait (suc i) b w = with_wait i b (w / 2) * 2 + w % 2

-- the lowest waiting slot of the n slots from i, else `none`
unfoldable pub lowest_waiting : ℕ → ℕ → ℕ → ℕ → ℕ
lowest_waiting w zero i none = none
lowest_waiting w (suc n) i none = cond (waits i w) i (lowest_waiting w n (i + 1) none)

-- "the next waiting one in cyclic order": of n slots those from `turn` up to the last, and then those from 0; n where none waits.
-- `turn` is one after the slot last granted, and 0 before any grant.
abbrev pub next_waiting : ℕ → ℕ → ℕ → ℕ
next_waiting w n turn = lowest_waiting w (n - turn) turn (lowest_waiting w turn 0 n)
