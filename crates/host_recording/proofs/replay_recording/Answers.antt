use Rattle.btsnoop_read.specs.Laws.{failed, passed}
use Rattle.host_recording.specs.Laws.{not_formed, no_header, ran_whole, ran_cut}
use Rattle.std.proofs.lemmas.Bool.{not_from_false, not_from_true}
use Rattle.host_recording.proofs.replay_recording.Goals as goal

pub returns-then-not-is_well_formed : goal.returns-then-not-is_well_formed
returns-then-not-is_well_formed c =
    let a = c.args in
    not_formed a.s.now a.t c.outcome.ensures c.start.ensures (failed c.is_well_formed.ensures (not_from_false _ c.if-not-is_well_formed.true))

pub returns-then-not-is_header : goal.returns-then-not-is_header
returns-then-not-is_header c =
    let a = c.args in
    no_header a.s.now a.t c.outcome-then-not-is_header.ensures c.start-then-not-is_header.ensures (passed c.is_well_formed.ensures (not_from_true _ c.if-not-is_well_formed.false))
    (failed c.is_header.ensures (not_from_false _ c.if-not-is_header.true))

pub returns-in-Ok : goal.returns-in-Ok
returns-in-Ok c =
    let a = c.args in
    ran_whole a.s.now a.t c.u32_at-datalink.result c.run_records.ensures c.u32_at-datalink.ensures
    (passed c.is_well_formed.ensures (not_from_true _ c.if-not-is_well_formed.false))
    (passed c.is_header.ensures (not_from_true _ c.if-not-is_header.false)) c.in-Ok.p c.outcome-in-Ok.ensures c.in-Ok.is

pub returns-in-Err : goal.returns-in-Err
returns-in-Err c =
    let a = c.args in
    ran_cut a.s.now a.t c.u32_at-datalink.result c.run_records.ensures c.u32_at-datalink.ensures
    (passed c.is_well_formed.ensures (not_from_true _ c.if-not-is_well_formed.false))
    (passed c.is_header.ensures (not_from_true _ c.if-not-is_header.false)) c.in-Err.p c.outcome-in-Err.ensures c.in-Err.is
