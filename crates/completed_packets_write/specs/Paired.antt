-- The handles and the counts that the writer takes: two lists of the same length. Assumes nothing.
use Rattle.std.specs.Prelude.{ℕ, Bool, ◌&&◌, List, [], ◌∷◌, eqb, length}
use Rattle.completed_packets.specs.Format.{Pair, pairs_of_form}

unfoldable pub paired : List ℕ → List ℕ → List Pair
paired (h ∷ hs) (c ∷ cs) = record { handle = h; num_completed_packets = c } ∷ paired hs cs
paired [] cs = []
paired (h ∷ hs) [] = []

abbrev pub paired_of_form : List ℕ → List ℕ → Bool
paired_of_form hs cs = eqb (length hs) (length cs) && pairs_of_form (paired hs cs)
