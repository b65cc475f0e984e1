use Rattle.std.proofs.Common.{ap, ◌∙◌}
use Rattle.rule.specs.Rule.{test_of}
use Rattle.table.specs.Resolve.{resolved}
use Rattle.table.specs.Settle.{settles_shared}
use Rattle.slot_call.specs.declared.TableView.{TableView}
use Rattle.slot_call.specs.View.{view_of}
use Rattle.slot_call.proofs.work_in.Goals as goal

pub returns : goal.returns
returns g c =
    settles_shared (test_of c.args.rule) (g.C.SlotCall.none c.args.call.now (view_of c.args.t.now)) (g.C.SlotCall.done c.args.call.now (view_of c.args.t.now)) c.args.t.now
    (g.met.C.SlotCall.moves c.args.call.now (view_of c.args.t.now))
    c.find-f.ensures
    (c.found-answer.ensures ∙ ap (λ (v : TableView). resolved (g.C.SlotCall.none c.args.call.now v) (g.C.SlotCall.done c.args.call.now v) c.find-f.result) c.view.ensures)
    c.put_shared.ensures
