-- The starred cases of document 01 ("Towers tried") and every other row: those of the table (`table_rows`), of messages and of the
-- roster. `starred_hold` is the one check. Assumes nothing.
use Rattle.std.specs.Prelude.{◌≡◌, refl, true, List, ◌++◌, map}
use Rattle.turn.specs.Turn.{waits, with_wait, lowest_waiting}
use Rattle.model.specs.Find.{slots_ok, held_by, well_formed, lowest, locate, lost_of}
use Rattle.limits.specs.Limits.{within}
use Rattle.completed_packets.specs.Format.{handles_fit}
use Rattle.completed_packets.specs.Read.{raw_pairs}
use Rattle.woken_set.specs.WokenSet.{added_at}
use Rattle.roster.specs.Roster.{entries_from, roster_bytes, inserted, sorted}
use Rattle.table_rows.specs.Rows.{rows}
use Rattle.all_rows.specs.Case.{Case, table, all_hold}
use Rattle.all_rows.specs.Limits.{limit_cases}
use Rattle.all_rows.specs.Messages.{read_cases, event_cases, att_cases, woken_cases}
use Rattle.all_rows.specs.Roster.{roster_cases}

abbrev pub cases : List Case
cases = map table rows ++ read_cases ++ limit_cases ++ event_cases ++ att_cases ++ woken_cases ++ roster_cases

pub starred_hold : all_hold cases ≡ true
unfolding locate well_formed slots_ok held_by lowest lost_of waits with_wait lowest_waiting within raw_pairs handles_fit added_at entries_from roster_bytes inserted sorted
starred_hold = refl
