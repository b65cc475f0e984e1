use mathlib.Core.Path.{◌≡◌}
use lib.ListN.{length}
use lib.Seq.{sets}
use Rattle.completed_packets.specs.Format.{pairs_bytes}
use Rattle.completed_packets_write.specs.Laws.{put_from}
use Rattle.completed_packets_write.proofs.put_pairs.Given as goal

abbrev pub invariant-loop-i : goal.invariant-loop-i
invariant-loop-i g l =
    let ps = g.P.PairList.pairs l.pairs in
    (length l.out ≡ length l.initial.out) × (sets l.initial.out 3 (pairs_bytes ps) ≡ put_from ps l.out l.i)
