use mathlib.Core.Path.{◌≡◌}
use lib.ListN.{length}
use lib.Seq.{sets}
use Rattle.big_endian.specs.BigEndian.{be}
use Rattle.big_endian_write.proofs.put_number.Given as goal

abbrev pub invariant-loop-i : goal.invariant-loop-i
invariant-loop-i l = (length l.out ≡ length l.initial.out) × (sets l.initial.out l.at (be l.n l.x) ≡ sets l.out l.at (be l.i l.rest))
