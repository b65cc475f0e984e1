use Rattle.std.proofs.Common.{◌≡◌}
use Rattle.rule.specs.Rule.{test_of}
use Rattle.search.specs.Search.{Passing}
use Rattle.search.proofs.find.Given as goal

abbrev pub invariant-loop-j : goal.invariant-loop-j
invariant-loop-j l = Passing (test_of l.rule) l.t l.j l.x × (l.x.end ≡ l.j-end)
