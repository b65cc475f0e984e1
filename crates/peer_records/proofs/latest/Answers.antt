use mathlib.Core.Path.{◌≡◌, ap, ◌∙◌}
use native.Mathlib.Omega.{arith}
use Rattle.peer_records.specs.Latest.{latest}
use Rattle.peer_records.proofs.Newest.{latest_none, latest_next}
use Rattle.peer_records.proofs.latest.Goals as goal

pub loop-i-init : goal.loop-i-init
loop-i-init c =
    let a = c.args in
    latest_none a.s.now a.peer

pub loop-i-preserved : goal.loop-i-preserved
loop-i-preserved c =
    let l = c.loop-i in
    let a = c.args in
    latest_next a.s.now a.peer l.i l.invariant c.record_at-r.ensures c.newer-best.ensures

pub returns : goal.returns
returns c =
    let l = c.loop-i in
    let a = c.args in
    let e : l.i ≡ c.u16_at-n.result = omega arith in
    l.invariant ∙ ap (latest a.s.now a.peer) (e ∙ c.u16_at-n.ensures)
