-- Which slot a call is about: the check of the table, then the lowest slot that fits. Assumes nothing.
use Rattle.std.specs.Prelude.{ℕ, zero, suc, ◌+◌, Bool, true, cond, ◌&&◌, List, get_or, eqb, leb}
use Rattle.slot.specs.declared.ConnectionStorage.{ConnectionStorage}
use Rattle.slot.specs.declared.ConnectionManager.{ConnectionManager}
use Rattle.slot.specs.declared.Located.{Located}
use Rattle.slot.specs.declared.Located.TheVariants.{Setup, Absent, At}
use Rattle.state.specs.State.{is_live, is_connected, is_open}
use Rattle.pool.specs.Pool.{is_whole}
use Rattle.slot.specs.Fresh.{blank_slot}

abbrev pub slot_at : ConnectionManager → ℕ → ConnectionStorage
slot_at t i = get_or t.connections i blank_slot

-- ---- the check: 8 where the slot count, a queue count or the packets of the pool are out of bounds, or the pool is not whole

-- a slot's own part: at most four events
abbrev pub slot_ok : ConnectionStorage → Bool
slot_ok s = leb s.events.len 4

-- the n slots from i
unfoldable pub slots_ok : List ConnectionStorage → ℕ → ℕ → Bool
slots_ok ss zero i = true
slots_ok ss (suc n) i = slot_ok (get_or ss i blank_slot) && slots_ok ss n (i + 1)

-- the packets of the pool that the n slots from i hold
unfoldable pub held_by : List ConnectionStorage → ℕ → ℕ → ℕ
held_by ss zero i = 0
held_by ss (suc n) i = (get_or ss i blank_slot).pool_held + held_by ss n (i + 1)

abbrev pub pool_ok : ConnectionManager → Bool
pool_ok t = is_whole t.count (held_by t.connections t.count 0) t.pool

-- slots at or past the count are padding and are not looked at
unfoldable pub well_formed : ConnectionManager → Bool
well_formed t = leb 1 t.count && (leb t.count 16 && (slots_ok t.connections t.count 0 && pool_ok t))

-- ---- the lost counts of the n slots from i, together

unfoldable pub lost_of : List ConnectionStorage → ℕ → ℕ → ℕ
lost_of ss zero i = 0
lost_of ss (suc n) i = (get_or ss i blank_slot).lost + lost_of ss n (i + 1)

-- ---- the search

-- whether the slot at an index fits
abbrev pub Test : Type 0
Test = ℕ → ConnectionStorage → Bool

-- the lowest index that fits, of the n slots from i
unfoldable pub lowest : Test → List ConnectionStorage → ℕ → ℕ → Located
lowest fits ss zero i = Absent
lowest fits ss (suc n) i = cond (fits i (get_or ss i blank_slot)) (At i) (lowest fits ss n (i + 1))

unfoldable pub locate : Test → ConnectionManager → Located
locate fits t = cond (well_formed t) (lowest fits t.connections t.count 0) Setup

-- ---- the four ways in which a call on a link goes

pub data Way : Type 0 where
  by_index by_live by_connected by_open : Way

-- whether a call may find a slot in this state
abbrev pub lets : Way → ConnectionStorage → Bool
lets by_index s = true
lets by_live s = is_live s.state
lets by_connected s = is_connected s.state
lets by_open s = is_open s.state

-- the call goes by the number n: an index or a handle. "The slot of h" is the lowest index that fits.
abbrev pub fits : Way → ℕ → Test
fits by_index n i s = eqb i n
fits by_live n i s = lets by_live s && eqb s.handle n
fits by_connected n i s = lets by_connected s && eqb s.handle n
fits by_open n i s = lets by_open s && eqb s.handle n
