-- What a call on slot i does to the pool. Assumes nothing.
use Rattle.std.specs.Prelude.{ℕ}
use Rattle.pool.specs.declared.Pool.{Pool}
use Rattle.pool.specs.declared.Share.{Share}
use Rattle.pool.specs.declared.Share.TheVariants.{Untouched, Waits, Draws, GivesBack, Closes}
use Rattle.pool.specs.Pool.{joined, drawn, returned, left}

abbrev pub shared : ℕ → Share → Pool → Pool
shared i Untouched p = p
shared i Waits p = joined i p
shared i (Draws n) p = drawn i n (joined i p)
shared i (GivesBack n) p = returned n p
shared i (Closes n) p = left i n p
