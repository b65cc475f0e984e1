use Rattle.std.proofs.Common.{◌≡◌}
use Rattle.model.specs.Calls.{with_credits_below}
use Rattle.all_credits.specs.Laws.{with_slots}
use Rattle.all_credits.proofs.set_link_credits_in.Given as goal

abbrev pub invariant-loop-i : goal.invariant-loop-i
invariant-loop-i l = l.t ≡ with_slots l.fn.t l.credits (with_credits_below l.credits l.i l.fn.t.connections)
