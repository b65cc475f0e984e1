use Rattle.std.specs.Prelude.{◌≡◌, drop}
use Rattle.text.specs.Text.{put_all, put_end}
use Rattle.text.proofs.put_all.Given as goal

-- what is left to be put
abbrev pub invariant-loop-i : goal.invariant-loop-i
invariant-loop-i l =
    (put_all l.initial.out l.at l.s ≡ put_all l.out l.next (drop l.i l.s))
    × (put_end l.initial.out l.at l.s ≡ put_end l.out l.next (drop l.i l.s))
