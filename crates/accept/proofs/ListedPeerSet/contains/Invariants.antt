-- None of the peers passed is the one.
use Rattle.std.proofs.Common.{◌≡◌, drop}
use Rattle.model.specs.Calls.{among}
use Rattle.accept.proofs.ListedPeerSet.contains.Given as goal

abbrev pub invariant-loop-i : goal.invariant-loop-i
invariant-loop-i l = among l.self.peers.now l.peer ≡ among (drop l.i l.self.peers.now) l.peer
