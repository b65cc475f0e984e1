-- Every case of a recording holds, and no number is idle. Assumes nothing.
use Rattle.std.specs.Prelude.{ℕ, ◌≡◌, refl, Bool, true, false, cond, List, [], ◌∷◌, ◌++◌}
use Rattle.turn.specs.Turn.{waits, with_wait}
use Rattle.model.specs.Find.{slots_ok, held_by, well_formed, lowest, locate}
use Rattle.number_theorems.specs.Numbers.{is_in}
use Rattle.limits.specs.Limits.{within}
use Rattle.completed_packets.specs.Format.{handles_fit}
use Rattle.completed_packets.specs.Read.{raw_pairs}
use Rattle.woken_set.specs.WokenSet.{added_at, joined_from}
use Rattle.big_endian.specs.BigEndian.{be, be_at}
use Rattle.btsnoop_read.specs.Format.{records_bytes}
use Rattle.btsnoop_read.specs.Read.{is_whole, records_from}
use Rattle.btsnoop_write.specs.Events.{event_records, is_read, parts_read, events_of_form}
use Rattle.recordings.specs.Recording.{received_event, counted, recording_numbers}
use Rattle.recording_rows.specs.Case.{Case, replays, writes, all_hold}
use Rattle.recording_rows.specs.Replayed.{replayed_cases}
use Rattle.recording_rows.specs.Written.{written_cases}

pub replayed_hold : all_hold replayed_cases ≡ true
unfolding locate well_formed slots_ok held_by lowest waits with_wait within raw_pairs handles_fit added_at joined_from be be_at records_bytes is_whole records_from received_event counted
replayed_hold = refl

pub written_hold : all_hold written_cases ≡ true
unfolding within raw_pairs handles_fit be records_bytes event_records is_read parts_read events_of_form
written_hold = refl

-- ---- each number of `RecordingNumbers`, and each of the writer's, is answered in some case

abbrev numbers_in : List Case → List ℕ
numbers_in [] = []
numbers_in (replays t s n vs ws cs ∷ more) = n ∷ numbers_in more
numbers_in (writes g out n vs left ∷ more) = n ∷ numbers_in more

abbrev idle : List ℕ → List ℕ → List ℕ
idle answered [] = []
idle answered (n ∷ ns) = cond (is_in n answered) (idle answered ns) (n ∷ idle answered ns)

pub none_idle : idle (numbers_in replayed_cases) recording_numbers ≡ []
none_idle = refl

pub none_idle_written : idle (numbers_in written_cases) (0 ∷ 9 ∷ 10 ∷ []) ≡ []
none_idle_written = refl
