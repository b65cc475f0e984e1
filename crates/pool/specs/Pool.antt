-- What happens to the pool: an ask, packets that come back, a link that closes. Assumes nothing.
use Rattle.std.specs.Prelude.{ℕ, ◌+◌, ◌-◌, ◌^◌, Bool, ◌&&◌, eqb, leb, ltb}
use Rattle.turn.specs.Turn.{with_wait, next_waiting}
use Rattle.pool.specs.declared.Pool.{Pool}

-- c packets, all free; nobody waits, and nobody was granted any
abbrev pub fresh_pool : ℕ → Pool
fresh_pool c = record { packets = c; free = c; waiting = 0; turn = 0 }

-- slot i among the waiting
abbrev pub joined : ℕ → Pool → Pool
joined i p = record { packets = p.packets; free = p.free; waiting = with_wait i 1 p.waiting; turn = p.turn }

-- slot i is the next waiting one of n slots, and k packets are free
abbrev pub may_draw : ℕ → ℕ → ℕ → Pool → Bool
may_draw n i k p = eqb (next_waiting p.waiting n p.turn) i && leb k p.free

-- "A grant above 0 ends the wait": slot i is the one last granted
abbrev pub drawn : ℕ → ℕ → Pool → Pool
drawn i k p = record { packets = p.packets; free = p.free - k; waiting = with_wait i 0 p.waiting; turn = i + 1 }

-- k packets come back
abbrev pub returned : ℕ → Pool → Pool
returned k p = record { packets = p.packets; free = p.free + k; waiting = p.waiting; turn = p.turn }

-- a link closes that held k: they come back, and it waits no longer
abbrev pub left : ℕ → ℕ → Pool → Pool
left i k p = record { packets = p.packets; free = p.free + k; waiting = with_wait i 0 p.waiting; turn = p.turn }

-- in a table of n slots that hold k together: 1 to 255 packets; free and held make them all; each wait and the last grant
-- are at a slot
abbrev pub is_whole : ℕ → ℕ → Pool → Bool
is_whole n k p =
    leb 1 p.packets
    && (leb p.packets 255 && (eqb (p.free + k) p.packets && (ltb p.waiting (2 ^ n) && leb p.turn n)))
