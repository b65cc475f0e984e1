use Rattle.std.specs.Prelude.{◌≡◌, ◌-◌, min}
use Rattle.text.specs.Text.{put_all, put_end, each}
use Rattle.event_text.specs.Event.{entry_text, events_text}
use Rattle.event_text.proofs.put_events.Given as goal

-- what is left to be put
abbrev pub invariant-loop-i : goal.invariant-loop-i
invariant-loop-i l =
    (put_all l.initial.out l.at (events_text l.q) ≡ put_all l.out l.n (each (entry_text l.q) (min l.q.len 4 - l.i) l.i))
    × (put_end l.initial.out l.at (events_text l.q) ≡ put_end l.out l.n (each (entry_text l.q) (min l.q.len 4 - l.i) l.i))
