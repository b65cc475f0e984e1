-- The number and values of each answer of the code. Assumes nothing.
use Rattle.std.specs.Prelude.{ℕ, ◌≡◌, refl, List, [], ◌∷◌, map, Result, Ok, Err}
use Rattle.model.specs.Answer.{Refusal, reply_of, one_value}

abbrev said : Result ℕ Refusal → List ℕ
said a = (reply_of one_value a).number ∷ (reply_of one_value a).values

pub answers_pinned : map said (Err Refusal.Setup ∷ Err Refusal.Pairs ∷ Err Refusal.Values ∷ Err Refusal.Pending ∷ Err Refusal.Refs ∷ Ok 7 ∷ [])
    ≡ (8 ∷ []) ∷ (22 ∷ []) ∷ (23 ∷ []) ∷ (5 ∷ []) ∷ (6 ∷ []) ∷ (0 ∷ 7 ∷ []) ∷ []
answers_pinned = refl
