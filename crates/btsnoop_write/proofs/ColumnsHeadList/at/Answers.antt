use Rattle.std.proofs.Common.{arith}
use Rattle.btsnoop_write.specs.Laws.{length_headed, headed_next}
use Rattle.btsnoop_write.proofs.ColumnsHeadList.at.Goals as goal

pub offset_bounds-self-i : goal.offset_bounds-self-i
offset_bounds-self-i c =
    let s = c.args.self.now in
    omega (arith, c.requires, s.same_drops, s.same_timestamps, length_headed s.lengths.now s.drops.now s.timestamps.now s.same_drops s.same_timestamps)

pub bounds-self-i : goal.bounds-self-i
bounds-self-i c =
    let s = c.args.self.now in
    omega (arith, c.requires, s.same_drops, s.same_timestamps, length_headed s.lengths.now s.drops.now s.timestamps.now s.same_drops s.same_timestamps)

pub offset_bounds-self-i-2 : goal.offset_bounds-self-i-2
offset_bounds-self-i-2 c =
    let s = c.args.self.now in
    omega (arith, c.requires, s.same_drops, s.same_timestamps, length_headed s.lengths.now s.drops.now s.timestamps.now s.same_drops s.same_timestamps)

pub bounds-self-i-2 : goal.bounds-self-i-2
bounds-self-i-2 c =
    let s = c.args.self.now in
    omega (arith, c.requires, s.same_drops, s.same_timestamps, length_headed s.lengths.now s.drops.now s.timestamps.now s.same_drops s.same_timestamps)

pub offset_bounds-self-i-3 : goal.offset_bounds-self-i-3
offset_bounds-self-i-3 c =
    let s = c.args.self.now in
    omega (arith, c.requires, s.same_drops, s.same_timestamps, length_headed s.lengths.now s.drops.now s.timestamps.now s.same_drops s.same_timestamps)

pub bounds-self-i-3 : goal.bounds-self-i-3
bounds-self-i-3 c =
    let s = c.args.self.now in
    omega (arith, c.requires, s.same_drops, s.same_timestamps, length_headed s.lengths.now s.drops.now s.timestamps.now s.same_drops s.same_timestamps)

pub returns : goal.returns
returns c =
    let s = c.args.self.now in
    headed_next s.lengths.now s.drops.now s.timestamps.now s.same_drops s.same_timestamps c.args.i c.requires
