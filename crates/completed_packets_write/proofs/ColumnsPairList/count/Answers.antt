use mathlib.Core.Path.{sym}
use Rattle.completed_packets_write.specs.Laws.{length_paired}
use Rattle.completed_packets_write.proofs.ColumnsPairList.count.Goals as goal

pub returns : goal.returns
returns c = let s = c.args.self.now in sym (length_paired s.handles.now s.counts.now s.same)
