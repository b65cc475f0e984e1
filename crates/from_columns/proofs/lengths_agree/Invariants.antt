use Rattle.std.proofs.Common.{◌≡◌, ◌+◌, ◌-◌, ◌*◌, ◌≤◌}
use Rattle.btsnoop_columns.specs.Read.{included_total, none_longer}
use Rattle.from_columns.proofs.lengths_agree.Given as goal

abbrev pub invariant-loop-i : goal.invariant-loop-i
invariant-loop-i l =
    (l.total ≤ 4294967295 * l.i) × (included_total l.c l.n 56 ≡ l.total + included_total l.c (l.n - l.i) (56 + 8 * l.i))
    × (none_longer l.c l.n 56 ≡ none_longer l.c (l.n - l.i) (56 + 8 * l.i))
