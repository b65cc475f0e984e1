use Rattle.std.specs.Prelude.{◌≡◌, drop}
use Rattle.text.specs.Text.{put_all, put_end}
use Rattle.number_text.specs.Number.{numbers_text}
use Rattle.number_text.proofs.put_numbers.Given as goal

-- what is left to be put
abbrev pub invariant-loop-i : goal.invariant-loop-i
invariant-loop-i l =
    (put_all l.initial.out l.at (numbers_text l.sep l.ns) ≡ put_all l.out l.next (numbers_text l.sep (drop l.i l.ns)))
    × (put_end l.initial.out l.at (numbers_text l.sep l.ns) ≡ put_end l.out l.next (numbers_text l.sep (drop l.i l.ns)))
