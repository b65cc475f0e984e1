use Rattle.std.proofs.Common.{sym}
use Rattle.btsnoop_write.specs.Laws.{length_headed}
use Rattle.btsnoop_write.proofs.ColumnsHeadList.count.Goals as goal

pub returns : goal.returns
returns c = let s = c.args.self.now in sym (length_headed s.lengths.now s.drops.now s.timestamps.now s.same_drops s.same_timestamps)
