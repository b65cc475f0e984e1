-- What a search hands to a call: where the slot is, and a copy of it. Where there is none, slot 0 stands in, to be put back
-- as it was. Assumes nothing.
use Rattle.std.specs.Prelude.{ℕ}
use Rattle.slot.specs.declared.ConnectionManager.{ConnectionManager}
use Rattle.slot.specs.declared.Located.{Located}
use Rattle.slot.specs.declared.Located.TheVariants.{Setup, Absent, At}
use Rattle.model.specs.Find.{Test, slot_at, locate}
use Rattle.search.specs.declared.Found.{Found}

abbrev pub place_of : Located → ℕ
place_of Setup = 0
place_of Absent = 0
place_of (At i) = i

abbrev pub found_at : ConnectionManager → Located → Found
found_at t f = record { located = f; index = place_of f; slot = slot_at t (place_of f) }

abbrev pub found : Test → ConnectionManager → Found
found test t = found_at t (locate test t)
