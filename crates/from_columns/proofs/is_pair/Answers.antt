use Rattle.from_columns.specs.Take.{pair_other, pair_by}
use Rattle.from_columns.proofs.is_pair.Goals as goal

pub returns-then-u32_at-offset : goal.returns-then-u32_at-offset
returns-then-u32_at-offset c = let a = c.args in pair_other a.c.now a.at a.offset a.size c.u32_at.ensures c.if-u32_at-offset.true

pub returns : goal.returns
returns c = let a = c.args in pair_by a.c.now a.at a.offset a.size c.u32_at.ensures c.if-u32_at-offset.false c.u32_at-2.ensures
