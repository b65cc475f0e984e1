-- Which numbers the two functions can answer, and that none is idle: the rows have each, but for 21 of `to_columns`, which `at_limit`
-- (btsnoop_columns, Limit) has. Assumes nothing.
use Rattle.std.specs.Prelude.{ℕ, ◌≡◌, refl, true, cond, List, [], ◌∷◌, leb, length}
use Rattle.std.proofs.Math.Option.{Option, none, some}
use Rattle.model.specs.Answer.{Reply}
use Rattle.model.proofs.Laws.{either}
use Rattle.number_theorems.specs.Numbers.{is_in}
use Rattle.btsnoop_read.specs.Read.{is_header, records_in}
use Rattle.btsnoop_columns.specs.Read.{arranged, recorded}
use Rattle.btsnoop_columns.specs.Answer.{writing_of, to_columns_of, from_columns_of}
use Rattle.column_rows.specs.Case.{Case, there, back, answers}
use Rattle.column_rows.specs.Rows.{to_rows, from_rows}

abbrev pub numbers_of_to_columns : List ℕ
numbers_of_to_columns = 0 ∷ 10 ∷ 11 ∷ 12 ∷ 21 ∷ []

abbrev pub numbers_of_from_columns : List ℕ
numbers_of_from_columns = 0 ∷ 10 ∷ 11 ∷ 21 ∷ []

-- past 11 and 12
writing_in : (P : Reply → Type 0) → ((n : ℕ) → P (record { number = 0; values = n ∷ [] })) → P (record { number = 10; values = [] })
    → P (record { number = 21; values = [] }) → (o : Option (List ℕ)) (out : List ℕ) → P (writing_of o out)
writing_in P ok space columns none out = columns
writing_in P ok space columns (some m) out = either P (leb (length m) (length out)) _ _ (ok (length m)) space

pub to_columns_in : (s out : List ℕ) → is_in (to_columns_of s out).number numbers_of_to_columns ≡ true
to_columns_in s out =
    let P : Reply → Type 0 = λ r. is_in r.number numbers_of_to_columns ≡ true in
    either P (is_header s) _ _
    (either P (records_in s).whole _ _ (writing_in P (λ n. refl) refl refl (arranged s) out) refl)
    refl

pub from_columns_in : (c out : List ℕ) → is_in (from_columns_of c out).number numbers_of_from_columns ≡ true
from_columns_in c out =
    let P : Reply → Type 0 = λ r. is_in r.number numbers_of_from_columns ≡ true in
    either P (is_header c) _ _ (writing_in P (λ n. refl) refl refl (recorded c) out) refl

-- ---- none is idle

abbrev numbers_in : List Case → List ℕ
numbers_in [] = []
numbers_in (there s out n vs left ∷ more) = n ∷ numbers_in more
numbers_in (back c out n vs left ∷ more) = n ∷ numbers_in more
numbers_in (answers r n vs ∷ more) = n ∷ numbers_in more

abbrev idle : List ℕ → List ℕ → List ℕ
idle answered [] = []
idle answered (n ∷ ns) = cond (is_in n answered) (idle answered ns) (n ∷ idle answered ns)

-- in rows of a few bytes nothing is past the limit
pub only_21_in_no_row : idle (numbers_in to_rows) numbers_of_to_columns ≡ 21 ∷ []
only_21_in_no_row = refl

pub none_idle_from_columns : idle (numbers_in from_rows) numbers_of_from_columns ≡ []
none_idle_from_columns = refl
