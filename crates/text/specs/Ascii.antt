-- The bytes of a quoted text. Assumes nothing.
use Rattle.std.specs.Prelude.{ℕ, List, [] as none, ◌∷◌ as ◌and◌}
use Prim.Native.Char.{code}
use Prim.Native.String.{String, [], ◌∷◌}

abbrev pub ascii : String → List ℕ
ascii [] = none
ascii (c ∷ s) = code c and ascii s
