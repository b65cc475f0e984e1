use Rattle.std.proofs.Common.{ap, ◌∙◌}
use Rattle.model.specs.Find.{Test, slot_at}
use Rattle.model.specs.Calls.{outcome}
use Rattle.slot_call.specs.View.{view_of}
use Rattle.slot_call.proofs.resolve_in.Goals as goal

pub returns : goal.returns
returns g c =
    let call = c.args.call.now in
    let t = c.args.t.now in
    c.work_in.ensures
    ∙ ap (λ (test : Test). outcome test (g.C.SlotCall.none call (view_of t)) (λ i. g.C.SlotCall.done call (view_of t) i (slot_at t i)) t) c.rule.ensures
    ∙ g.met.C.SlotCall.runs call t
