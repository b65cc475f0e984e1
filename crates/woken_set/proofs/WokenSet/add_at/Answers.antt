use Rattle.woken_set.specs.WokenSet.{added_at}
use borrow.Author.Tests.{lt-ltb, le-ltb}
use Rattle.woken_set.proofs.WokenSet.add_at.Goals as goal

pub returns-then-i-lt16 : goal.returns-then-i-lt16
unfolding added_at
returns-then-i-lt16 c = simp (lt-ltb _ _ c.if-i-lt16.true, c.or.ensures)

pub returns-else-i-lt16 : goal.returns-else-i-lt16
unfolding added_at
returns-else-i-lt16 c = simp (le-ltb _ _ c.if-i-lt16.false)
