use Rattle.std.proofs.Common.{true, sym, ◌∙◌}
use Rattle.completed_packets.specs.Format.{masked_pairs}
use Rattle.completed_packets.specs.Read.{raw_pairs}
use Rattle.messages.specs.Received.{counts_reply, pair_calls}
use Rattle.messages.proofs.Laws.{by_check}
use Rattle.host_pairs.specs.Laws.{ran_all_lem}
use Rattle.host_pairs.proofs.run_pairs.Goals as goal

pub returns : goal.returns
returns c =
    let a = c.args in
    by_check counts_reply (pair_calls (masked_pairs (raw_pairs a.s.now a.n 3))) a.t true
    (sym c.is_well_formed.ensures ∙ c.if-not-is_well_formed.false)
    (ran_all_lem _ _ c.confirm_pairs-run.ensures)
