use Rattle.std.proofs.Common.{◌<◌, ◌^◌, ◌≡◌}
use Rattle.big_endian.specs.BigEndian.{be_at}
use Rattle.big_endian.proofs.number.Given as goal

abbrev pub invariant-loop-i : goal.invariant-loop-i
invariant-loop-i l = (l.x < 256 ^ l.i) × (l.x ≡ be_at l.i l.part 0)
