use Rattle.host_record.specs.Laws.{other_flags, as_it_is, no_byte, other_byte, behind_byte}
use Rattle.host_record.proofs.received_record.Goals as goal

pub returns-then-flags-ne3 : goal.returns-then-flags-ne3
returns-then-flags-ne3 c =
    let a = c.args in
    other_flags a.datalink a.flags a.part.now a.t c.no_event.ensures c.if-flags-ne3.true

pub returns-then-datalink-ne1002 : goal.returns-then-datalink-ne1002
returns-then-datalink-ne1002 c =
    let a = c.args in
    as_it_is a.datalink a.flags a.part.now a.t c.received.ensures c.if-flags-ne3.false c.if-datalink-ne1002.true

pub returns-then-part-eq0 : goal.returns-then-part-eq0
returns-then-part-eq0 c =
    let a = c.args in
    no_byte a.datalink a.flags a.part.now a.t c.no_event-then-part-eq0.ensures c.if-flags-ne3.false
    c.if-datalink-ne1002.false c.if-part-eq0.true

pub returns-then-part-ne4 : goal.returns-then-part-ne4
returns-then-part-ne4 c =
    let a = c.args in
    other_byte a.datalink a.flags a.part.now a.t c.no_event-then-part-ne4.ensures c.if-flags-ne3.false
    c.if-datalink-ne1002.false c.if-part-ne4.true

pub returns : goal.returns
returns c =
    let a = c.args in
    behind_byte a.datalink a.flags a.part.now a.t c.received-2.ensures
    c.if-flags-ne3.false c.if-datalink-ne1002.false
    c.if-part-eq0.false c.if-part-ne4.false
