use Rattle.std.proofs.Common.{◌+◌, drop, sym, ap, ◌∙◌, arith, rules}
use Rattle.woken_set.specs.declared.WokenSet.{WokenSet}
use Rattle.completed_packets.specs.Format.{masked_pairs}
use Rattle.completed_packets.specs.Read.{raw_pairs}
use Rattle.completed_packets.specs.Laws.{length_first, pair_here}
use Rattle.host_pairs.specs.declared.PairsRun.{PairsRun}
use Rattle.host_pairs.specs.Pairs.{confirmed_pairs}
use Rattle.host_pairs.specs.Laws.{counts_next, pairs_next, pairs_end}
use Rattle.host_pairs.proofs.confirm_pairs.Goals as goal

pub loop-i-init : goal.loop-i-init
loop-i-init c =
    let a = c.args in (
      search rules,
      omega arith,
      omega arith,
      ap
          (λ (w : WokenSet). confirmed_pairs (record { completed = record { applied = 0; skipped = 0 }; woken = w; table = a.t }) (masked_pairs (raw_pairs a.s.now a.n 3)))
          (sym c.new.ensures),
    )

pub confirm_pair-run-requires : goal.confirm_pair-run-requires
confirm_pair-run-requires c = (omega arith, omega arith)

pub loop-i-preserved : goal.loop-i-preserved
loop-i-preserved c =
    let l = c.loop-i in
    let a = c.args in
    let ps = masked_pairs (raw_pairs a.s.now a.n 3) in
    let here = pair_here a.s.now a.n l.i _ (omega arith) c.pair_in.ensures in
    let q = c.confirm_pair-run.ensures in
    let n = counts_next l.run c.pair_in.result in (
      omega arith,
      omega (arith, n.0, ap (λ (x : PairsRun). x.completed.applied) q),
      omega (arith, n.1, ap (λ (x : PairsRun). x.completed.skipped) q),
      l.invariant.3 ∙ pairs_next ps l.i l.run _ here ∙ ap (λ (x : PairsRun). confirmed_pairs x (drop (l.i + 1) ps)) (sym q),
    )

pub returns : goal.returns
returns c =
    let l = c.loop-i in
    let a = c.args in
    sym (l.invariant.3 ∙ pairs_end (masked_pairs (raw_pairs a.s.now a.n 3)) l.i l.run (omega (arith, length_first a.s.now a.n)))
