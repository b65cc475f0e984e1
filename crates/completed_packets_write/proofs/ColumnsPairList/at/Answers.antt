use native.Mathlib.Omega.{arith}
use Rattle.completed_packets_write.specs.Laws.{length_paired, paired_next}
use Rattle.completed_packets_write.proofs.ColumnsPairList.at.Goals as goal

pub offset_bounds-self-i : goal.offset_bounds-self-i
offset_bounds-self-i c = let s = c.args.self.now in omega (arith, c.requires, length_paired s.handles.now s.counts.now s.same)

pub bounds-self-i : goal.bounds-self-i
bounds-self-i c = let s = c.args.self.now in omega (arith, c.requires, length_paired s.handles.now s.counts.now s.same)

pub offset_bounds-self-i-2 : goal.offset_bounds-self-i-2
offset_bounds-self-i-2 c = let s = c.args.self.now in omega (arith, c.requires, s.same, length_paired s.handles.now s.counts.now s.same)

pub bounds-self-i-2 : goal.bounds-self-i-2
bounds-self-i-2 c = let s = c.args.self.now in omega (arith, c.requires, s.same, length_paired s.handles.now s.counts.now s.same)

pub returns : goal.returns
returns c = let s = c.args.self.now in paired_next s.handles.now s.counts.now s.same c.args.i c.requires
