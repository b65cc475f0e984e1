use Rattle.std.proofs.Common.{arith}
use Rattle.btsnoop_read.specs.Laws.{found_head}
use Rattle.btsnoop.proofs.run.head_at.Goals as goal

pub returns : goal.returns
returns c = let f = found_head c.args.s.now c.args.at _ c.record_at.ensures c.in-Some.is in omega (arith, f.within)
