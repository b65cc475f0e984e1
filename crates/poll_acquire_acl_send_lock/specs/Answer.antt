-- The values of a lock. Assumes nothing.
use Rattle.std.specs.Prelude.{ℕ, List, [], ◌∷◌}
use Rattle.slot.specs.declared.AclSendLock.{AclSendLock}

abbrev pub lock_values : AclSendLock → List ℕ
lock_values l = l.handle ∷ l.index ∷ l.life ∷ []
