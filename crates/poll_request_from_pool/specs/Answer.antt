-- The values of a grant of the pool. Assumes nothing.
use Rattle.std.specs.Prelude.{ℕ, List, [], ◌∷◌}
use Rattle.slot.specs.declared.PoolGrant.{PoolGrant}

abbrev pub pool_grant_values : PoolGrant → List ℕ
pool_grant_values g = g.handle ∷ g.packets ∷ g.index ∷ g.life ∷ []
