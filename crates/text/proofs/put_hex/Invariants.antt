use Rattle.std.specs.Prelude.{◌≡◌, drop}
use Rattle.text.specs.Text.{put_all, put_end, hex_text, hex_digits}
use Rattle.text.proofs.put_hex.Given as goal

-- what is left to be put
abbrev pub invariant-loop-i : goal.invariant-loop-i
invariant-loop-i l =
    (put_all l.initial.out l.at (hex_text l.s) ≡ put_all l.out l.next (hex_digits (drop l.i l.s)))
    × (put_end l.initial.out l.at (hex_text l.s) ≡ put_end l.out l.next (hex_digits (drop l.i l.s)))
