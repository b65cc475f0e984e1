-- What is shown of every reached table (proofs/Reach.antt): it has sixteen places and is well formed. Assumes nothing.
use Rattle.std.specs.Prelude.{◌≡◌, length}
use Rattle.slot.specs.declared.ConnectionManager.{ConnectionManager}
use Rattle.model.proofs.Laws.{WellFormed}

pub record Sound (t : ConnectionManager) : Type 0 where
  pub places : length t.connections ≡ 16
  pub formed : WellFormed t
