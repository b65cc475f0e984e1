-- What the code does to any pool and asks of it, for which its types have room. In a table that is not refused with 8 it is what
-- Shared.antt and Pool.antt say. Assumes nothing.
use Rattle.std.specs.Prelude.{ℕ, ◌-◌, ◌^◌, Bool, true, cond, ◌&&◌, leb, ltb}
use Rattle.pool.specs.declared.Pool.{Pool}
use Rattle.pool.specs.declared.Share.{Share}
use Rattle.pool.specs.declared.Share.TheVariants.{Untouched, Waits, Draws, GivesBack, Closes}
use Rattle.pool.specs.Shared.{shared}

-- no more is drawn than is free, and no more comes back than a byte has room for
abbrev pub within : Share → Pool → Bool
within Untouched p = true
within Waits p = true
within (Draws n) p = leb n p.free
within (GivesBack n) p = leb n (255 - p.free)
within (Closes n) p = leb n (255 - p.free)

-- at a place past the sixteen, or where it is not within these bounds, nothing happens
abbrev pub shared_in : ℕ → Share → Pool → Pool
shared_in i x p = cond (ltb i 16 && within x p) (shared i x p) p

-- whether the pool fits n slots, but for what these hold: no more are free than there are
abbrev pub fits_slots : ℕ → Pool → Bool
fits_slots n p =
    leb 1 p.packets
    && (leb p.packets 255 && (leb p.free p.packets && (ltb p.waiting (2 ^ n) && leb p.turn n)))
