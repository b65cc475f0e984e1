use Rattle.std.specs.Prelude.{◌≡◌, ◌+◌, ◌*◌, drop}
use Rattle.text.specs.Text.{put_all, put_end}
use Rattle.text_read.specs.Read.{hex_bytes}
use Rattle.text_read.proofs.octets_at.Given as goal

-- what is left to be read
abbrev pub invariant-loop-n : goal.invariant-loop-n
invariant-loop-n l =
    (l.next ≡ l.at + 2 * l.n)
    × (put_all l.initial.into 0 (hex_bytes (drop l.at l.s)) ≡ put_all l.into l.n (hex_bytes (drop l.next l.s)))
    × (put_end l.initial.into 0 (hex_bytes (drop l.at l.s)) ≡ put_end l.into l.n (hex_bytes (drop l.next l.s)))
