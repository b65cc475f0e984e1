use Rattle.std.proofs.Common.{ℕ, List, ◌≡◌, false, ◌∙◌}
use Rattle.wire.specs.Wire.{writing, written}
use Rattle.btsnoop_read.specs.Format.{recording_bytes}
use Rattle.btsnoop_write.specs.Events.{event_records, events_of_form}
use Rattle.btsnoop_write.specs.Laws.{of_columns, form_drops, form_timestamps, unwritten}
use Rattle.btsnoop_write.proofs.write_columns.Goals.{else-lengths-drops-via-then-lengths-drops+else-lengths-timestamps, else-lengths-drops-via-else-lengths-drops}
use Rattle.btsnoop_write.proofs.write_columns.Goals as goal

pub returns-then-lengths-timestamps : goal.returns-then-lengths-timestamps
returns-then-lengths-timestamps c =
    let es = c.args.events.now in
    let out = c.args.out.now in
    let ns = c.args.lengths.now in
    let ds = c.args.drops.now in
    let ts = c.args.timestamps.now in
    let h = c.if-lengths-drops.true in
    let k = c.if-lengths-timestamps.true in
    record {
      reply = c.write_heads.ensures.reply
          ∙ of_columns ns ds ts h k (λ (ns ds ts : List ℕ). writing (events_of_form es ns ds ts) (recording_bytes 1001 (event_records es ns ds ts)) out);
      bytes = c.write_heads.ensures.bytes
          ∙ of_columns ns ds ts h k (λ (ns ds ts : List ℕ). written (events_of_form es ns ds ts) (recording_bytes 1001 (event_records es ns ds ts)) out);
    }

pub returns-else-lengths-drops : goal.returns-else-lengths-drops
returns-else-lengths-drops c =
    let es = c.args.events.now in
    let ns = c.args.lengths.now in
    let ds = c.args.drops.now in
    let ts = c.args.timestamps.now in
    let uneven : events_of_form es ns ds ts ≡ false = elim c.else-lengths-drops.branch [
      | else-lengths-drops-via-then-lengths-drops+else-lengths-timestamps w ↦ form_timestamps es ns ds ts w.if-lengths-timestamps.false
      | else-lengths-drops-via-else-lengths-drops w ↦ form_drops es ns ds ts w.if-lengths-drops.false
    ] in
    let r = unwritten es ns ds ts c.args.out.now uneven in
    record { reply = r.0; bytes = r.1 }
