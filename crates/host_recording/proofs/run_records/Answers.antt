use Rattle.std.proofs.Common.{◌≡◌, ◌+◌, ◌≤◌, length, sym, ap, ◌∙◌, arith, rules}
use Rattle.slot.specs.declared.ConnectionManager.{ConnectionManager}
use Rattle.messages.specs.Received.{received}
use Rattle.btsnoop_read.specs.declared.RecordHead.{RecordHead}
use Rattle.btsnoop_read.specs.Read.{record_at, records_at, records_in, told}
use Rattle.btsnoop_read.specs.Laws.{found_head, no_head, walk_next, walk_cut, walk_end}
use Rattle.recordings.specs.Recording.{Running, ran, ran_record, received_record}
use Rattle.host_recording.specs.Answer.{running_of}
use Rattle.host_recording.specs.Laws.{none_counted, more, count_next}
use Rattle.host_recording.proofs.run_records.Goals as goal

pub loop-head-init : goal.loop-head-init
loop-head-init c = (
  none_counted 16 (ap (λ (p : Running ConnectionManager). p.counts) c.start-p.ensures),
  ap (λ (p : Running ConnectionManager). told (ran_record received c.args.datalink) p (records_in c.args.s.now)) c.start-p.ensures,
)

pub overflow_add-from : goal.overflow_add-from
overflow_add-from c = let f = found_head c.args.s.now c.loop-head.at c.in-Some.head c.record_at.ensures c.in-Some.is in omega (arith, f.within)

pub overflow_add-end : goal.overflow_add-end
overflow_add-end c = let f = found_head c.args.s.now c.loop-head.at c.in-Some.head c.record_at.ensures c.in-Some.is in omega (arith, f.within)

pub slice_bounds-run_record-end : goal.slice_bounds-run_record-end
slice_bounds-run_record-end c =
    let f = found_head c.args.s.now c.loop-head.at c.in-Some.head c.record_at.ensures c.in-Some.is in
    let k : c.loop-head.at + 24 + c.in-Some.head.included ≤ length c.args.s.now = f.within in
    search rules

pub run_record-p-requires : goal.run_record-p-requires
run_record-p-requires c =
    let f = found_head c.args.s.now c.loop-head.at c.in-Some.head c.record_at.ensures c.in-Some.is in
    more c.loop-head.invariant.0 (omega (arith, f.within))

pub loop-head-smaller : goal.loop-head-smaller
loop-head-smaller c = let f = found_head c.args.s.now c.loop-head.at c.in-Some.head c.record_at.ensures c.in-Some.is in omega (arith, f.within)

pub loop-head-preserved : goal.loop-head-preserved
loop-head-preserved c =
    let l = c.loop-head in
    let s = c.args.s.now in
    let d = c.args.datalink in
    let f = found_head s l.at c.in-Some.head c.record_at.ensures c.in-Some.is in
    let g = ap (λ (h : RecordHead). h.flags) f.head in
    let r : running_of c.run_record-p.result ≡ ran_record received d (running_of l.p) (record_at s l.at) =
    c.run_record-p.ensures ∙ (λ k. ran (running_of l.p) (received_record received d (g k) (f.bytes k) l.p.table)) in (
      count_next l.at _ l.p.counts l.invariant.0 (omega arith) _ (ap (λ (p : Running ConnectionManager). p.counts) r),
      (λ k. told (ran_record received d) (r k) (records_at s (l.at + 24 + f.included k)))
          ∙ sym (walk_next (ran_record received d) s (running_of l.p) l.at (omega (arith, f.within)) f.whole)
          ∙ l.invariant.1,
    )

pub returns-then-at-s : goal.returns-then-at-s
returns-then-at-s c =
    let l = c.loop-head in
    let s = c.args.s.now in
    sym (walk_cut (ran_record received c.args.datalink) s (running_of l.p) l.at (omega arith) (no_head s l.at c.record_at.ensures c.in_default.is))
    ∙ l.invariant.1

pub returns : goal.returns
returns c =
    let l = c.loop-head in
    sym (walk_end (ran_record received c.args.datalink) c.args.s.now (running_of l.p) l.at (omega arith)) ∙ l.invariant.1
