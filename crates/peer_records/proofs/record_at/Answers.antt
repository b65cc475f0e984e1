use mathlib.Core.Path.{◌≡◌, sym, ap, ◌∙◌}
use mathlib.Core.Bool.{true, false}
use lib.Dec.{eqb}
use borrow.Author.Tests.{eq-eqb, ne_eqb}
use Rattle.std.specs.Prelude.{Some}
use Rattle.peer_records.specs.declared.PeerRecord.{PeerRecord}
use Rattle.peer_records.specs.Format.{length_at, record_of, record_at}
use Rattle.peer_records.proofs.record_at.Goals as goal

pub returns-then-size-eq14 : goal.returns-then-size-eq14
unfolding record_at
returns-then-size-eq14 c =
    let a = c.args in
    let e : eqb (length_at a.s.now a.i) 14 ≡ true =
    eq-eqb _ _ (sym c.u16_at-size.ensures ∙ c.if-size-eq14.true)
    in
    rw e (ap (λ (r : PeerRecord). Some r) (c.record_of.ensures ∙ ap (record_of a.s.now) c.u16_at-offset.ensures))

pub returns : goal.returns
unfolding record_at
returns c =
    let a = c.args in
    let e : eqb (length_at a.s.now a.i) 14 ≡ false =
    ne_eqb _ _ (λ q. c.if-size-eq14.false (c.u16_at-size.ensures ∙ q))
    in
    rw e
