use mathlib.Core.Path.{sym, ◌∙◌}
use native.Mathlib.Omega.{arith}
use Rattle.completed_packets_write.specs.Laws.{put_next, put_same, put_end_lem}
use Rattle.completed_packets_write.proofs.put_pairs.Goals as goal

pub loop-i-preserved : goal.loop-i-preserved
loop-i-preserved g c =
    let ps = g.P.PairList.pairs c.args.pairs.now in
    let e = c.put_pair.ensures in (
      put_same _ c.loop-i.out _ _ e ∙ c.loop-i.invariant.0,
      c.loop-i.invariant.1 ∙ put_next ps c.loop-i.out _ c.loop-i.i _ c.at.ensures e,
    )

pub returns : goal.returns
returns g c = sym (c.loop-i.invariant.1 ∙ put_end_lem (g.P.PairList.pairs c.args.pairs.now) c.loop-i.out c.loop-i.i (omega arith))
