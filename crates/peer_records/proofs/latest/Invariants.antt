-- So far `best` is the best of the records passed.
use mathlib.Core.Path.{◌≡◌}
use Rattle.peer_records.specs.Latest.{latest}
use Rattle.peer_records.proofs.latest.Given as goal

abbrev pub invariant-loop-i : goal.invariant-loop-i
invariant-loop-i l = (l.best ≡ latest l.s l.peer l.i)
