-- A case: which records of a file are in force, or a poll with a file on a table. Assumes nothing.
use Rattle.std.specs.Prelude.{ℕ, zero, suc, Bool, true, cond, ◌&&◌, List, [], ◌∷◌, ◌++◌, eqb}
use Rattle.state.specs.declared.ConnectionState.TheVariants.{Connected}
use Rattle.slot.specs.declared.LeConnRole.{LeConnRole}
use Rattle.slot.specs.declared.ConnectionManager.{ConnectionManager}
use Rattle.slot.specs.declared.Woken.TheVariants.{Nobody}
use Rattle.slot.specs.Set.{set_state, set_refcount}
use Rattle.model.specs.Answer.{Outcome}
use Rattle.model.specs.Find.{slot_at}
use Rattle.model.specs.Calls.{put}
use Rattle.peer_records.specs.Format.{count_in}
use Rattle.peer_records.specs.Force.{in_force}
use Rattle.accept_recorded.specs.Recorded.{poll_recorded}
use Rattle.table_rows.specs.Row.{woken_values, table_values, same, same_all}

pub data Row : Type 0 where
  -- the records of a file that are in force
  counts : List ℕ → List ℕ → Row
  -- a poll of this role with this file: the number and values of its answer, and the whole table then
  polls : ConnectionManager → LeConnRole → List ℕ → ℕ → List ℕ → ConnectionManager → Row

-- the poll accepts slot i
abbrev pub accepts : ConnectionManager → LeConnRole → List ℕ → ℕ → Row
accepts t r s i = polls t r s 0 (i ∷ []) (put t i (set_refcount (set_state (slot_at t i) Connected) 1))

-- the poll answers this number, and leaves the table
abbrev pub refuses : ConnectionManager → LeConnRole → List ℕ → ℕ → Row
refuses t r s n = polls t r s n [] t

-- of the first n records
abbrev in_force_below : List ℕ → ℕ → List ℕ
in_force_below s zero = []
in_force_below s (suc n) = in_force_below s n ++ cond (in_force s n) (n ∷ []) []

abbrev is_outcome : Outcome → ℕ → List ℕ → ConnectionManager → Bool
is_outcome o n vs t =
    eqb o.reply.number n
    && (same o.reply.values vs && (same (woken_values o.woken) (woken_values Nobody) && same_all (table_values o.table) (table_values t)))

abbrev pub holds : Row → Bool
holds (counts s is) = same (in_force_below s (count_in s)) is
holds (polls t r s n vs u) = is_outcome (poll_recorded r s t) n vs u

abbrev pub all_hold : List Row → Bool
all_hold [] = true
all_hold (r ∷ rs) = holds r && all_hold rs
