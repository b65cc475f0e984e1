use Rattle.std.specs.Prelude.{◌≡◌, ◌-◌, min}
use Rattle.text.specs.Text.{put_all, put_end, each}
use Rattle.table_text.specs.Table.{slot_behind, slots_text}
use Rattle.table_text.proofs.put_slots.Given as goal

-- what is left to be put
abbrev pub invariant-loop-i : goal.invariant-loop-i
invariant-loop-i l =
    (put_all l.initial.out l.at (slots_text l.t) ≡ put_all l.out l.n (each (slot_behind l.t) (min l.t.count 16 - l.i) l.i))
    × (put_end l.initial.out l.at (slots_text l.t) ≡ put_end l.out l.n (each (slot_behind l.t) (min l.t.count 16 - l.i) l.i))
