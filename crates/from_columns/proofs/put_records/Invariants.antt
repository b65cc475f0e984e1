use Rattle.std.proofs.Common.{◌≡◌, ◌+◌, ◌-◌, ◌*◌, length}
use lib.Seq.{sets}
use Rattle.btsnoop_columns.specs.Read.{included_total}
use Rattle.from_columns.specs.Take.{rest_from}
use Rattle.from_columns.proofs.put_records.Given as goal

abbrev pub invariant-loop-i : goal.invariant-loop-i
invariant-loop-i l =
    (l.from + included_total l.c (l.n - l.i) (56 + 8 * l.i) ≡ length l.c) × (l.at + 40 + 24 * l.n ≡ l.from + 24 * l.i) × (length l.out ≡ length l.initial.out)
    × (sets l.initial.out 16 (rest_from l.c l.n 0 0 (56 + 24 * l.n)) ≡ sets l.out l.at (rest_from l.c l.n l.before l.i l.from))
