-- None of the slots passed fits.
use Rattle.std.proofs.Common.{◌≡◌, ◌-◌}
use Rattle.model.specs.Find.{lowest}
use Rattle.accept.specs.Accept.{accepts_of}
use Rattle.accept.proofs.poll_accept_among.Given as goal

abbrev pub invariant-loop-i : goal.invariant-loop-i
invariant-loop-i g l = lowest (accepts_of l.role (g.P.PeerSet.has l.peers)) l.t.connections l.t.count 0 ≡ lowest (accepts_of l.role (g.P.PeerSet.has l.peers)) l.t.connections (l.t.count - l.i) l.i
