-- The text of events, as docs/HISTORY.md has it. Assumes nothing.
use Rattle.std.specs.Prelude.{ℕ, min, cond, List, [], ◌++◌, eqb}
use Rattle.event_queue.specs.declared.ConnectionEvent.{ConnectionEvent}
use Rattle.event_queue.specs.declared.EventQueue.{EventQueue}
use Rattle.event_queue.specs.Queue.{entry_at}
use Rattle.model.specs.Answer.{event_values}
use Rattle.text.specs.Text.{each}
use Rattle.text.specs.Ascii.{ascii}
use Rattle.number_text.specs.Number.{separated}

-- EVENT: its kind and the numbers that this kind has, with a separator between
unfoldable pub event_text : ℕ → ConnectionEvent → List ℕ
event_text sep e = separated sep (event_values e)

-- `,` between an event's numbers
abbrev comma : ℕ
comma = 44

-- `;` between events: before each but that at place 0
abbrev pub between_text : ℕ → List ℕ
between_text i = cond (eqb i 0) [] (ascii ";")

-- the event at a place of the queue, behind the `;`
abbrev pub entry_text : EventQueue → ℕ → List ℕ
entry_text q i = between_text i ++ event_text comma (entry_at q i)

-- oldest first, as many as the queue has, which are at most four
abbrev pub events_text : EventQueue → List ℕ
events_text q = each (entry_text q) (min q.len 4) 0

-- in brackets
abbrev pub queue_text : EventQueue → List ℕ
queue_text q = ascii "[" ++ (events_text q ++ ascii "]")
