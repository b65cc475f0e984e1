use Rattle.std.proofs.Common.{true, ap, ◌∙◌, eq-eqb}
use Rattle.event_queue.specs.declared.ConnectionEvent.{ConnectionEvent}
use Rattle.model.specs.Link.{post_handle_event}
use Rattle.model.specs.Calls.{run, on_link}
use Rattle.messages.specs.Received.{updated_of}
use Rattle.messages.proofs.Laws.{lifted, by_status, runs_on_link}
use Rattle.host_event.proofs.connection_update_complete.Goals as goal

pub returns : goal.returns
returns c =
    let u = c.args.u in
    by_status u.status _ _ true (eq-eqb _ _ c.if-u-ne0.false)
    (c.one.ensures
    ∙ ap lifted (c.post_handle_event-o.ensures ∙ ap (λ (v : ConnectionEvent). run (on_link (post_handle_event v) u.handle) c.args.t) c.params_updated.ensures)
    ∙ runs_on_link (post_handle_event (updated_of u)) _ _)
