use Rattle.std.proofs.Common.{◌≡◌, ◌≤◌, drop}
use Rattle.completed_packets.specs.Format.{masked_pairs}
use Rattle.completed_packets.specs.Read.{raw_pairs}
use Rattle.host_pairs.specs.Pairs.{started, confirmed_pairs}
use Rattle.host_pairs.proofs.confirm_pairs.Given as goal

abbrev pub invariant-loop-i : goal.invariant-loop-i
invariant-loop-i l =
    let ps = masked_pairs (raw_pairs l.s l.n 3) in
    (l.i ≤ l.n) × (l.run.completed.applied ≤ l.i) × (l.run.completed.skipped ≤ l.i)
    × (confirmed_pairs (started l.fn.t) ps ≡ confirmed_pairs l.run (drop l.i ps))
