use Rattle.std.proofs.Common.{ap, ◌∙◌}
use Rattle.model.specs.Find.{Test}
use Rattle.search.specs.Found.{found}
use Rattle.table.specs.Resolve.{resolved}
use Rattle.table.specs.Settle.{looks}
use Rattle.slot_call.specs.declared.TableView.{TableView}
use Rattle.slot_call.specs.View.{view_of}
use Rattle.slot_call.proofs.resolve_look.Goals as goal

pub returns : goal.returns
returns g c =
    (looks (g.C.SlotCall.test c.args.call.now) (g.C.SlotCall.none c.args.call.now (view_of c.args.t.now)) (g.C.SlotCall.done c.args.call.now (view_of c.args.t.now)) c.args.t.now
    (c.find-f.ensures ∙ ap (λ (test : Test). found test c.args.t.now) c.rule.ensures)
    (c.found-answer.ensures ∙ ap (λ (v : TableView). resolved (g.C.SlotCall.none c.args.call.now v) (g.C.SlotCall.done c.args.call.now v) c.find-f.result) c.view.ensures)
    (g.met.C.LookCall.looks c.args.call.now (view_of c.args.t.now)))
    ∙ g.met.C.SlotCall.runs c.args.call.now c.args.t.now
