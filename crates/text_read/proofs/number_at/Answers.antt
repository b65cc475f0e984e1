use Rattle.text_read.specs.Number.{turned, at_end, step_fits}
use Rattle.std.specs.Prelude.{None, Some, Ok, Err}
use Prim.Native.Nat.{ℕ}
use mathlib.Core.Path.{◌≡◌, refl, sym, ap, ◌∙◌}
use borrow.Author.Rules.{rules}
use borrow.Author.Tests.{eq-eqb}
use native.Mathlib.Omega.{arith}
use lib.ListN.{length, get_or}
use Rattle.text_read.specs.Read.{number_at, ended_of}
use Rattle.text_read.proofs.number_at.Goals as goal

pub returns-then-s-at : goal.returns-then-s-at
unfolding number_at
returns-then-s-at c = sym (at_end c.args.at c.args.s.now c.args.at 0 (omega arith) (omega arith) ∙ simp (eq-eqb c.args.at c.args.at refl))

pub loop-i-init : goal.loop-i-init
unfolding number_at
loop-i-init c = (search rules, refl)

pub returns-in-Ok-None : goal.returns-in-Ok-None
returns-in-Ok-None c =
    let h = c.in-Ok-None in
    c.ended.ensures ∙ sym (turned c.args.at c.args.s.now c.loop-i.i c.loop-i.value (Ok None) c.loop-i.invariant.1 (rw h.field-0-is at h.ensures) (omega arith) (omega arith) (omega arith))

pub returns-in-Err : goal.returns-in-Err
returns-in-Err c = sym (turned c.args.at c.args.s.now c.loop-i.i c.loop-i.value (Err c.in-Err.e) c.loop-i.invariant.1 (sym c.in-Err.is ∙ c.take_digit.ensures) (omega arith) (omega arith) (omega arith))

pub loop-i-preserved : goal.loop-i-preserved
loop-i-preserved c =
    let h = c.in-Ok-Some in
    (step_fits c.loop-i.value (get_or c.args.s.now c.loop-i.i 0) h.v (rw h.field-0-is at h.ensures), turned c.args.at c.args.s.now c.loop-i.i c.loop-i.value (Ok (Some h.v)) c.loop-i.invariant.1 (rw h.field-0-is at h.ensures) (omega arith) (omega arith) (omega arith))

pub returns : goal.returns
returns c =
    let l = c.loop-i in
    let a = c.args in
    let n : length a.s.now ≡ l.i = omega arith in
    c.ended-2.ensures ∙ ap (λ (i : ℕ). ended_of a.at i l.value) n ∙ sym (l.invariant.1 ∙ at_end a.at a.s.now l.i l.value (omega arith) (omega arith))
