-- What its answer stands for. Assumes nothing.
use Rattle.std.specs.Prelude.{ℕ, Bool, List, [], ◌∷◌}
use Rattle.model.specs.Link.{bit}

-- true is 1, false is 0
abbrev pub bit_values : Bool → List ℕ
bit_values b = bit b ∷ []
