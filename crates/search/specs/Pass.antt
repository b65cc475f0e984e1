-- The check of a table and the search in it, in one pass: what each slot makes of what was found before it. Assumes nothing.
use Rattle.std.specs.Prelude.{ℕ, zero, suc, ◌+◌, ◌-◌, cond, ◌&&◌, List, get_or, leb, eqb}
use Rattle.slot.specs.declared.ConnectionStorage.{ConnectionStorage}
use Rattle.slot.specs.declared.Located.{Located}
use Rattle.slot.specs.declared.Located.TheVariants.{Setup, Absent, At}
use Rattle.slot.specs.Fresh.{blank_slot}
use Rattle.pool.specs.declared.Pool.{Pool}
use Rattle.pool.specs.Code.{fits_slots}
use Rattle.model.specs.Find.{Test, slot_ok}
use Rattle.search.specs.declared.Search.{Search}

abbrev pub searched : ℕ → ℕ → Located → Search
searched n m f = record { located = f; end = n; missing = m }

-- before any slot is seen
abbrev pub begun : ℕ → Pool → Search
begun n p = cond (leb 1 n && (leb n 16 && fits_slots n p)) (searched n (p.packets - p.free) Absent) (searched 0 0 Setup)

-- the first that fits stays
abbrev pub or_else : Located → Located → Located
or_else Setup g = Setup
or_else Absent g = g
or_else (At j) g = At j

-- a queue out of bounds, or more packets than are missing, is 8, whatever was found
abbrev pub seen : Test → ℕ → ConnectionStorage → Search → Search
seen test i s x =
    cond (slot_ok s && leb s.pool_held x.missing)
    (searched x.end (x.missing - s.pool_held) (or_else x.located (cond (test i s) (At i) Absent)))
    (searched x.end 0 Setup)

-- after the last slot: packets that are still missing are 8
abbrev pub ended : Search → Search
ended x = cond (eqb x.missing 0) x (searched x.end 0 Setup)

-- the n slots from i, and the end
unfoldable pub pass : Test → List ConnectionStorage → ℕ → ℕ → Search → Located
pass test ss zero i x = (ended x).located
pass test ss (suc n) i x = pass test ss n (i + 1) (seen test i (get_or ss i blank_slot) x)
