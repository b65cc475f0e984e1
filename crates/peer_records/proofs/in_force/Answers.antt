use mathlib.Core.Path.{refl, sym, ◌∙◌}
use Rattle.peer_records.proofs.Newest.{by_latest}
use Rattle.peer_records.proofs.in_force.Goals as goal

pub returns-in_default : goal.returns-in_default
returns-in_default c =
    let a = c.args in
    by_latest a.s.now a.role a.peer (sym c.in_default.is ∙ c.latest.ensures) refl

pub returns : goal.returns
returns c =
    let a = c.args in
    by_latest a.s.now a.role a.peer (sym c.in-Some.is ∙ c.latest.ensures) c.from.ensures
