use Rattle.std.proofs.Common.{sym, ◌∙◌}
use Rattle.btsnoop_read.specs.Laws.{failed, passed}
use Rattle.from_columns.specs.Take.{pairs_are}
use Rattle.std.proofs.lemmas.Bool.{not_from_false, not_from_true}
use Rattle.from_columns.proofs.are_places.Goals as goal

pub returns-then-not-is_pair : goal.returns-then-not-is_pair
returns-then-not-is_pair c =
    let f1 = failed c.is_pair.ensures (not_from_false _ c.if-not-is_pair.true) in
    sym (pairs_are c.args.c.now c.args.n c.args.b ∙ rw f1)

pub returns-then-not-is_pair-2 : goal.returns-then-not-is_pair-2
returns-then-not-is_pair-2 c =
    let p1 = passed c.is_pair.ensures (not_from_true _ c.if-not-is_pair.false) in
    let f2 = failed c.is_pair-2.ensures (not_from_false _ c.if-not-is_pair-2.true) in
    sym (pairs_are c.args.c.now c.args.n c.args.b ∙ rw (p1, f2))

pub returns-then-not-is_pair-3 : goal.returns-then-not-is_pair-3
returns-then-not-is_pair-3 c =
    let p1 = passed c.is_pair.ensures (not_from_true _ c.if-not-is_pair.false) in
    let p2 = passed c.is_pair-2.ensures (not_from_true _ c.if-not-is_pair-2.false) in
    let f3 = failed c.is_pair-3.ensures (not_from_false _ c.if-not-is_pair-3.true) in
    sym (pairs_are c.args.c.now c.args.n c.args.b ∙ rw (p1, p2, f3))

pub returns-then-not-is_pair-4 : goal.returns-then-not-is_pair-4
returns-then-not-is_pair-4 c =
    let p1 = passed c.is_pair.ensures (not_from_true _ c.if-not-is_pair.false) in
    let p2 = passed c.is_pair-2.ensures (not_from_true _ c.if-not-is_pair-2.false) in
    let p3 = passed c.is_pair-3.ensures (not_from_true _ c.if-not-is_pair-3.false) in
    let f4 = failed c.is_pair-4.ensures (not_from_false _ c.if-not-is_pair-4.true) in
    sym (pairs_are c.args.c.now c.args.n c.args.b ∙ rw (p1, p2, p3, f4))

pub returns : goal.returns
returns c =
    let p1 = passed c.is_pair.ensures (not_from_true _ c.if-not-is_pair.false) in
    let p2 = passed c.is_pair-2.ensures (not_from_true _ c.if-not-is_pair-2.false) in
    let p3 = passed c.is_pair-3.ensures (not_from_true _ c.if-not-is_pair-3.false) in
    let p4 = passed c.is_pair-4.ensures (not_from_true _ c.if-not-is_pair-4.false) in
    c.is_pair-5.ensures ∙ sym (pairs_are c.args.c.now c.args.n c.args.b ∙ rw (p1, p2, p3, p4))
