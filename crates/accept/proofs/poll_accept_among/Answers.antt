use Rattle.std.proofs.Common.{sym, arith}
use Rattle.model.specs.Find.{slot_at}
use Rattle.model.proofs.Laws.{formed_well}
use Rattle.accept.specs.Accept.{accepts_of}
use Rattle.accept.proofs.Laws.{fit, other_peer, other_slot, search_hit, search_next, search_end, not_formed, not_found, taken}
use Rattle.accept.proofs.poll_accept_among.Goals as goal
use Rattle.accept.proofs.poll_accept_among.Goals.{else-fits-via-then-fits+else-contains, else-fits-via-else-fits}

pub returns-then-not-is_well_formed : goal.returns-then-not-is_well_formed
returns-then-not-is_well_formed g c =
    not_formed (accepts_of c.args.role (g.P.PeerSet.has c.args.peers.now)) c.args.t (sym c.if-not-is_well_formed.ensures)

pub offset_bounds-t-i : goal.offset_bounds-t-i
offset_bounds-t-i g c = omega (arith, c.loop-i-test.true, (formed_well c.args.t (sym c.if-not-is_well_formed.ensures)).most)

pub bounds-t-i : goal.bounds-t-i
bounds-t-i g c = omega (arith, c.loop-i-test.true, (formed_well c.args.t (sym c.if-not-is_well_formed.ensures)).most)

pub returns-then-contains : goal.returns-then-contains
returns-then-contains g c =
    let a = c.args in
    let has = g.P.PeerSet.has a.peers.now in
    let fits = fit a.role has c.loop-i.i (slot_at a.t c.loop-i.i) (sym c.if-fits.ensures) (sym c.if-contains.ensures) in
    taken (accepts_of a.role has) a.t (sym c.if-not-is_well_formed.ensures)
    (search_hit (accepts_of a.role has) a.t.connections a.t.count c.loop-i.i c.loop-i.invariant c.loop-i-test.true fits)
    c.at-answer.ensures c.put_shared.ensures

pub loop-i-preserved : goal.loop-i-preserved
loop-i-preserved g c =
    let a = c.args in
    let has = g.P.PeerSet.has a.peers.now in
    search_next (accepts_of a.role has) a.t.connections a.t.count c.loop-i.i c.loop-i.invariant c.loop-i-test.true
    (elim c.else-fits.branch [
      | else-fits-via-then-fits+else-contains w ↦ other_peer a.role has c.loop-i.i (slot_at a.t c.loop-i.i) (sym w.if-contains.ensures)
      | else-fits-via-else-fits w ↦ other_slot a.role has c.loop-i.i (slot_at a.t c.loop-i.i) (sym w.if-fits.ensures)
    ])

pub returns : goal.returns
returns g c =
    not_found (accepts_of c.args.role (g.P.PeerSet.has c.args.peers.now)) c.args.t (sym c.if-not-is_well_formed.ensures)
    (search_end (accepts_of c.args.role (g.P.PeerSet.has c.args.peers.now)) c.args.t.connections c.args.t.count c.loop-i.i c.loop-i.invariant c.loop-i-test.false)
