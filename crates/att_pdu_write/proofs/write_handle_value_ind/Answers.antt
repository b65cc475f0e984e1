use Prim.Native.Nat.{suc}
use mathlib.Core.Path.{sym, ◌∙◌}
use native.Mathlib.Omega.{arith}
use borrow.Author.Tests.{le-leb, lt-leb}
use lib.ListN.{length}
use Rattle.att_pdu_write.specs.Laws.{three_more, put_behind}
use Rattle.att_pdu_write.proofs.write_handle_value_ind.Goals as goal

pub returns-then-out-total : goal.returns-then-out-total
returns-then-out-total c =
    let a = c.args in
    let w = sym c.within.ensures ∙ c.if-not-within.false in
    let l = lt-leb (suc (suc (suc (length a.value.now)))) (length a.out.now) (omega arith) in
    record {
      reply = simp (w, l);
      bytes = simp (w, l);
    }

pub returns : goal.returns
returns c =
    let a = c.args in
    let w = sym c.within.ensures ∙ c.if-not-within.false in
    let l = le-leb (suc (suc (suc (length a.value.now)))) (length a.out.now) (omega arith) in
    record {
      reply = simp (w, l, three_more);
      bytes = simp (w, sym c.low_byte.ensures, sym c.high_byte.ensures) (put_behind _ _ _ a.value.now a.out.now _ _ (omega arith) c.put.ensures.bytes c.put-2.ensures.bytes);
    }
