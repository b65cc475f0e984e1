-- A case: bytes and a slice, and what is answered and left. Assumes nothing.
use Rattle.std.specs.Prelude.{ℕ, Bool, true, false, ◌&&◌, List, [], ◌∷◌, eqb}
use Rattle.model.specs.Answer.{Reply}
use Rattle.btsnoop_columns.specs.Answer.{to_columns_of, to_columns_left, from_columns_of, from_columns_left}

pub data Case : Type 0 where
  -- a recording to columns: the number and values of the answer, and what is left in the slice
  there : (s out : List ℕ) (number : ℕ) (values left : List ℕ) → Case
  -- the same from columns
  back : (c out : List ℕ) (number : ℕ) (values left : List ℕ) → Case
  -- an answer of the code: its number and values
  answers : (r : Reply) (number : ℕ) (values : List ℕ) → Case

-- n bytes are written, and these are left
abbrev pub arranges : List ℕ → List ℕ → ℕ → List ℕ → Case
arranges s out n left = there s out 0 (n ∷ []) left

abbrev pub records : List ℕ → List ℕ → ℕ → List ℕ → Case
records c out n left = back c out 0 (n ∷ []) left

-- refused: every byte is as it was
abbrev pub not_arranged : List ℕ → List ℕ → ℕ → Case
not_arranged s out number = there s out number [] out

abbrev pub not_recorded : List ℕ → List ℕ → ℕ → Case
not_recorded c out number = back c out number [] out

abbrev same : List ℕ → List ℕ → Bool
same [] [] = true
same [] (y ∷ ys) = false
same (x ∷ xs) [] = false
same (x ∷ xs) (y ∷ ys) = eqb x y && same xs ys

abbrev is : Reply → ℕ → List ℕ → Bool
is r n vs = eqb r.number n && same r.values vs

abbrev pub case_holds : Case → Bool
case_holds (there s out n vs left) = is (to_columns_of s out) n vs && same (to_columns_left s out) left
case_holds (back c out n vs left) = is (from_columns_of c out) n vs && same (from_columns_left c out) left
case_holds (answers r n vs) = is r n vs

abbrev pub all_hold : List Case → Bool
all_hold [] = true
all_hold (c ∷ cs) = case_holds c && all_hold cs
