-- What a call does with what was found, and the slot put back. Assumes nothing.
use Rattle.std.specs.Prelude.{ℕ, cond, ◌&&◌, ltb}
use Rattle.slot.specs.declared.ConnectionStorage.{ConnectionStorage}
use Rattle.slot.specs.declared.ConnectionManager.{ConnectionManager}
use Rattle.slot.specs.declared.Located.{Located}
use Rattle.slot.specs.declared.Located.TheVariants.{Setup, Absent, At}
use Rattle.slot.specs.declared.Woken.TheVariants.{Nobody}
use Rattle.pool.specs.declared.Share.{Share}
use Rattle.pool.specs.Code.{shared_in}
use Rattle.model.specs.Answer.{Refusal, Reply, Local, refuse, unshared}
use Rattle.model.specs.Calls.{put_with}
use Rattle.search.specs.declared.Found.{Found}

-- 8; its reply where no slot fits; what it does to the slot at its index
abbrev pub resolve : Reply → (ℕ → ConnectionStorage → Local) → Located → ConnectionStorage → Local
resolve none at Setup s = refuse Refusal.Setup s
resolve none at Absent s = unshared none Nobody s
resolve none at (At i) s = at i s

abbrev pub resolved : Reply → (ℕ → ConnectionStorage → Local) → Found → Local
resolved none at f = resolve none at f.located f.slot

-- the slot put back, and what the call does to the pool; an index that is not below the count, or past the array, changes nothing
abbrev pub put_shared : ConnectionManager → ℕ → ConnectionStorage → Share → ConnectionManager
put_shared t i s x = cond (ltb i t.count && ltb i 16) (put_with t i s (shared_in i x t.pool)) t
