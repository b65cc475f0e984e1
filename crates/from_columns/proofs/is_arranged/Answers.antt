use Rattle.std.proofs.Common.{◌/◌, ◌&&◌, eqb, sym, ap, ◌∙◌, arith}
use Rattle.btsnoop_read.specs.Laws.{failed, passed}
use Rattle.btsnoop_columns.specs.Format.{places}
use Rattle.btsnoop_columns.specs.Read.{stand, included_total, none_longer}
use Rattle.from_columns.specs.Take.{arranged_size, arranged_pairs, arranged_lengths, arranged_by}
use Rattle.std.proofs.lemmas.Bool.{not_from_false, not_from_true}
use Rattle.from_columns.proofs.is_arranged.Goals as goal

pub returns-then-c-n : goal.returns-then-c-n
returns-then-c-n c =
    let s = c.args.c.now in
    let n = ap (λ x. x / 8) c.u32_at-n.ensures in
    let b = c.u32_at-b.ensures in
    sym (arranged_size s (λ q. c.if-c-n.true (omega (arith, n, b))))

pub returns-then-not-are_places : goal.returns-then-not-are_places
returns-then-not-are_places c =
    let s = c.args.c.now in
    let n = ap (λ x. x / 8) c.u32_at-n.ensures in
    let b = c.u32_at-b.ensures in
    sym (arranged_pairs s ((λ k. stand s 16 (places (sym n k) (sym b k))) ∙ failed c.are_places.ensures (not_from_false _ c.if-not-are_places.true)))

pub returns-then-not-lengths_agree : goal.returns-then-not-lengths_agree
returns-then-not-lengths_agree c =
    let s = c.args.c.now in
    let n = ap (λ x. x / 8) c.u32_at-n.ensures in
    let b = c.u32_at-b.ensures in
    sym (arranged_lengths s ((λ k. eqb (included_total s (sym n k) 56) (sym b k) && none_longer s (sym n k) 56) ∙ failed c.lengths_agree.ensures (not_from_false _ c.if-not-lengths_agree.true)))

pub returns : goal.returns
returns c =
    let s = c.args.c.now in
    let n = ap (λ x. x / 8) c.u32_at-n.ensures in
    let b = c.u32_at-b.ensures in
    arranged_by s (omega (arith, n, b, c.if-c-n.false))
    ((λ k. stand s 16 (places (sym n k) (sym b k))) ∙ passed c.are_places.ensures (not_from_true _ c.if-not-are_places.false))
    ((λ k. eqb (included_total s (sym n k) 56) (sym b k) && none_longer s (sym n k) 56) ∙ passed c.lengths_agree.ensures (not_from_true _ c.if-not-lengths_agree.false))
