use mathlib.Core.Bool.{Bool}
use Prim.Native.Nat.{◌+◌, ◌-◌, ◌≤◌}
use mathlib.Core.Path.{◌≡◌, refl, sym, ap, ◌∙◌}
use native.Mathlib.Omega.{arith}
use borrow.Author.Rules.{rules}
use Rattle.woken_set.specs.declared.WokenSet.{WokenSet}
use Rattle.woken_set.specs.WokenSet.{joined_from, join_next, join_end}
use Rattle.woken_set.proofs.WokenSet.join.Given as goal

abbrev pub invariant-loop-i : goal.invariant-loop-i
invariant-loop-i l = (joined_from l.more 16 0 l.initial.set ≡ joined_from l.more (16 - l.i) l.i l.set)
