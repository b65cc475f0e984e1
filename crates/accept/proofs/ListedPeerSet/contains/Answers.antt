use Rattle.std.proofs.Common.{sym, ap, ◌∙◌}
use lib.ListN.{drop_of_length-le}
use Rattle.model.specs.Calls.{among}
use Rattle.accept.proofs.Laws.{here, further, some_fit, none_fits}
use Rattle.accept.proofs.ListedPeerSet.contains.Goals as goal

pub returns-then-same_address : goal.returns-then-same_address
returns-then-same_address c =
    let a = c.args in
    some_fit a.self.now.peers.now a.peer
    (c.loop-i.invariant ∙ here a.self.now.peers.now a.peer _ c.loop-i.i c.loop-i-test.true (sym c.if-same_address.ensures))

pub loop-i-preserved : goal.loop-i-preserved
loop-i-preserved c =
    let a = c.args in
    c.loop-i.invariant ∙ further a.self.now.peers.now a.peer _ c.loop-i.i c.loop-i-test.true (sym c.if-same_address.ensures)

pub returns : goal.returns
returns c =
    let a = c.args in
    none_fits a.self.now.peers.now a.peer
    (c.loop-i.invariant ∙ ap (λ ps. among ps a.peer) (drop_of_length-le a.self.now.peers.now c.loop-i-test.false))
