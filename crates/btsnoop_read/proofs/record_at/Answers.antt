use Rattle.std.proofs.Common.{sym, ◌∙◌}
use Rattle.btsnoop_read.specs.Head.{none_found, found}
use Rattle.btsnoop_read.proofs.record_at.Goals as goal

pub returns-then-is_whole : goal.returns-then-is_whole
returns-then-is_whole c = let a = c.args in found a.s.now a.at (sym c.is_whole.ensures ∙ c.if-is_whole.true) c.head_at.ensures

pub returns : goal.returns
returns c = let a = c.args in none_found a.s.now a.at (sym c.is_whole.ensures ∙ c.if-is_whole.false)
