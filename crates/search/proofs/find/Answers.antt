use Rattle.std.proofs.Common.{refl, sym, ap, ◌∙◌, ◌<◌, ◌≤◌, arith, rules}
use Rattle.rule.specs.Rule.{test_of}
use Rattle.search.specs.declared.Search.{Search}
use Rattle.search.specs.Search.{seen_end, pass_start, pass_next, pass_place, pass_found}
use Rattle.search.proofs.find.Goals as goal

pub loop-j-init : goal.loop-j-init
loop-j-init c = (pass_start _ _ c.begin-x.ensures, refl)

pub loop-j-preserved : goal.loop-j-preserved
loop-j-preserved c =
    let p = c.loop-j.invariant in
    let within : c.loop-j.j < c.loop-j.x.end = omega (arith, p.1, c.loop-j-test.true) in
    (pass_next _ _ within c.see-x.ensures p.0, ap (λ (x : Search). x.end) c.see-x.ensures ∙ seen_end (test_of c.args.rule) c.args.t.now _ _ c.loop-j.x ∙ p.1)

pub offset_bounds-t-i : goal.offset_bounds-t-i
offset_bounds-t-i c =
    let p = c.loop-j.invariant in
    let past : c.loop-j.x.end ≤ c.loop-j.j = omega (arith, p.1, c.loop-j-test.false) in
    omega (arith, pass_place _ _ past c.end-x.ensures p.0 c.place-i.ensures)

pub bounds-t-i : goal.bounds-t-i
bounds-t-i c =
    let p = c.loop-j.invariant in
    let past : c.loop-j.x.end ≤ c.loop-j.j = omega (arith, p.1, c.loop-j-test.false) in
    pass_place _ _ past c.end-x.ensures p.0 c.place-i.ensures

pub returns : goal.returns
returns c =
    let p = c.loop-j.invariant in
    let past : c.loop-j.x.end ≤ c.loop-j.j = omega (arith, p.1, c.loop-j-test.false) in
    pass_found _ _ past c.end-x.ensures p.0 c.place-i.ensures
