-- A case of a recording, and whether it holds. Assumes nothing.
use Rattle.std.specs.Prelude.{ℕ, Bool, true, ◌&&◌, List, [], ◌∷◌}
use Rattle.slot.specs.declared.ConnectionManager.{ConnectionManager}
use Rattle.model.specs.Calls.{Call}
use Rattle.model.specs.History.{after}
use Rattle.messages.specs.Received.{Received}
use Rattle.wire.specs.Wire.{writing, written}
use Rattle.btsnoop_read.specs.Format.{recording_bytes}
use Rattle.btsnoop_write.specs.Events.{event_records, events_of_form}
use Rattle.recordings.specs.Recording.{replayed}
use Rattle.table_rows.specs.Row.{same, same_all, table_values}
use Rattle.all_rows.specs.Case.{is, woken_places}

-- what the writer of events is given: events, lengths, drops, timestamps
pub record Given : Type 0 where
  pub events : List ℕ
  pub lengths : List ℕ
  pub drops : List ℕ
  pub timestamps : List ℕ

pub data Case : Type 0 where
  -- a table and a recording's bytes: the number and values of the answer, who is woken (the places of all_rows), and the calls after
  -- which the whole table is as it is then
  replays : ConnectionManager → List ℕ → ℕ → List ℕ → List ℕ → List Call → Case
  -- what is given to the writer, and a slice: the number and values of the answer, and every byte of the slice then
  writes : Given → List ℕ → ℕ → List ℕ → List ℕ → Case

abbrev is_replayed : Received → ℕ → List ℕ → List ℕ → ConnectionManager → Bool
is_replayed r n vs ws t = is r.reply n vs && (same (woken_places r.woken) ws && same_all (table_values r.table) (table_values t))

abbrev is_written : Bool → List ℕ → List ℕ → ℕ → List ℕ → List ℕ → Bool
is_written form message out n vs left = is (writing form message out) n vs && same (written form message out) left

abbrev pub case_holds : Case → Bool
case_holds (replays t s n vs ws calls) = is_replayed (replayed s t) n vs ws (after calls t)
case_holds (writes g out n vs left) =
    is_written (events_of_form g.events g.lengths g.drops g.timestamps)
    (recording_bytes 1001 (event_records g.events g.lengths g.drops g.timestamps)) out n vs left

abbrev pub all_hold : List Case → Bool
all_hold [] = true
all_hold (c ∷ cs) = case_holds c && all_hold cs
