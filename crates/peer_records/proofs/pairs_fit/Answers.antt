use mathlib.Core.Path.{◌≡◌, sym, ap, ◌∙◌}
use native.Mathlib.Omega.{arith}
use Rattle.peer_records.specs.Below.{all_below, all_none, all_next, all_fails}
use Rattle.peer_records.specs.Format.{pair_fits, earliest_first, earliest_next, pair_early, pair_outside, pair_fits_lem}
use Rattle.peer_records.proofs.pairs_fit.Goals as goal

pub loop-i-init : goal.loop-i-init
loop-i-init c =
    (omega arith, earliest_first c.args.s.now c.requires, all_none (pair_fits c.args.s.now))

pub returns-then-start-ahead : goal.returns-then-start-ahead
returns-then-start-ahead c =
    let l = c.loop-i in
    let a = c.args in
    sym
    (all_fails (pair_fits a.s.now) a.n l.i (omega arith)
    (pair_early a.s.now l.i l.invariant.1 (omega (arith, c.u16_at-offset.ensures))))

pub returns-then-s-end : goal.returns-then-s-end
returns-then-s-end c =
    let l = c.loop-i in
    let a = c.args in
    sym
    (all_fails (pair_fits a.s.now) a.n l.i (omega arith)
    (pair_outside a.s.now l.i l.invariant.1
    (omega (arith, c.u16_at-offset.ensures, c.u16_at-size.ensures))))

pub loop-i-preserved : goal.loop-i-preserved
loop-i-preserved c =
    let l = c.loop-i in
    let a = c.args in
    let p = c.u16_at-offset.ensures in
    let q = c.u16_at-size.ensures in (
      omega arith,
      omega (arith, p, q, earliest_next a.s.now l.i),
      all_next (pair_fits a.s.now) l.i l.invariant.2
          (pair_fits_lem a.s.now l.i l.invariant.1 (omega (arith, p)) (omega (arith, p, q))),
    )

pub returns : goal.returns
returns c =
    let l = c.loop-i in
    let a = c.args in
    let e : l.i ≡ a.n = omega arith in
    sym l.invariant.2 ∙ ap (all_below (pair_fits a.s.now)) e
