use Rattle.std.proofs.Common.{length, sym, ◌∙◌, arith}
use Rattle.btsnoop_read.specs.Laws.{failed, passed}
use Rattle.btsnoop_write.specs.Laws.{form_parts, head_short, head_unread, head_read, heads_end, none_left}
use Rattle.std.proofs.lemmas.Bool.{not_from_false, not_from_true}
use Rattle.btsnoop_write.proofs.of_form.Goals as goal

pub returns-then-events-from : goal.returns-then-events-from
returns-then-events-from g c =
    let es = c.args.events.now in
    let hs = g.H.HeadList.heads c.args.heads.now in
    let l = c.loop-i in
    sym (form_parts es hs ∙ l.invariant.1 ∙ head_short es hs l.from l.i _ (omega arith) c.at-size.ensures c.if-events-from.true)

pub returns-then-not-is_read : goal.returns-then-not-is_read
returns-then-not-is_read g c =
    let es = c.args.events.now in
    let hs = g.H.HeadList.heads c.args.heads.now in
    let l = c.loop-i in
    sym (form_parts es hs ∙ l.invariant.1 ∙ head_unread es hs l.from l.i _ (omega arith) c.at-size.ensures (failed c.is_read.ensures (not_from_false _ c.if-not-is_read.true)))

pub loop-i-preserved : goal.loop-i-preserved
loop-i-preserved g c =
    let es = c.args.events.now in
    let hs = g.H.HeadList.heads c.args.heads.now in
    let l = c.loop-i in
    (omega arith, l.invariant.1 ∙ head_read es hs l.from l.i _ (omega arith) c.at-size.ensures c.if-events-from.false (passed c.is_read.ensures (not_from_true _ c.if-not-is_read.false)))

pub returns : goal.returns
returns g c =
    let es = c.args.events.now in
    let hs = g.H.HeadList.heads c.args.heads.now in
    let l = c.loop-i in
    none_left l.from (length es) l.invariant.0
    ∙ sym (form_parts es hs ∙ l.invariant.1 ∙ heads_end es hs l.from l.i (omega arith))
