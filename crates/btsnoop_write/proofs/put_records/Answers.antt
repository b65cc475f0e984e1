use Rattle.std.proofs.Common.{◌+◌, ◌*◌, ◌≤◌, length, refl, sym, ap, ◌∙◌, arith, rules}
use Rattle.btsnoop_put.specs.Put.{put_length}
use Rattle.btsnoop_write.specs.Laws.{form_parts, head_fits, head_put, heads_put_all}
use Rattle.btsnoop_write.proofs.put_records.Goals as goal

pub loop-i-init : goal.loop-i-init
loop-i-init g c = (omega arith, refl, sym (form_parts c.args.events.now (g.H.HeadList.heads c.args.heads.now)) ∙ c.requires.form, refl)

pub loop-i-preserved : goal.loop-i-preserved
loop-i-preserved g c =
    let es = c.args.events.now in
    let hs = g.H.HeadList.heads c.args.heads.now in
    let l = c.loop-i in
    let r = c.requires.room in
    let p = head_fits es hs l.from l.i _ (omega arith) c.at-head.ensures l.invariant.2 in (
      omega (arith, p.0),
      ap length c.put_record.ensures ∙ put_length l.out _ _ ∙ l.invariant.1,
      p.1,
      l.invariant.3
          ∙ head_put es hs l.from l.i _ (omega arith) c.at-head.ensures l.out _ (16 + 24 * l.i + l.from) _ (omega arith) l.invariant.0 p.0 (omega arith) c.put_record.ensures,
    )

pub returns : goal.returns
returns g c =
    let l = c.loop-i in
    sym (l.invariant.3 ∙ heads_put_all c.args.events.now (g.H.HeadList.heads c.args.heads.now) l.from l.i (omega arith) l.out _)

pub slice_bounds-put_record-end : goal.slice_bounds-put_record-end
slice_bounds-put_record-end g c =
    let l = c.loop-i in
    let k : l.from + c.at-head.result.length ≤ length c.args.events.now = omega (arith, (head_fits c.args.events.now (g.H.HeadList.heads c.args.heads.now) l.from l.i _ (omega arith) c.at-head.ensures l.invariant.2).0) in
    search rules
