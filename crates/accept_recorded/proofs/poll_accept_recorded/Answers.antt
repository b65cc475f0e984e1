use Rattle.std.proofs.Common.{sym}
use Rattle.accept_recorded.proofs.Laws.{not_formed, no_file, no_fit, searched}
use Rattle.accept_recorded.proofs.poll_accept_recorded.Goals as goal

pub returns-then-not-is_well_formed : goal.returns-then-not-is_well_formed
returns-then-not-is_well_formed c =
    let a = c.args in
    not_formed a.role a.file.now a.t c.refused.ensures (sym c.if-not-is_well_formed.ensures)

pub returns-then-not-is_file : goal.returns-then-not-is_file
returns-then-not-is_file c =
    let a = c.args in
    no_file a.role a.file.now a.t c.refused-then-not-is_file.ensures (sym c.if-not-is_well_formed.ensures)
    (sym c.if-not-is_file.ensures)

pub returns-then-not-records_fit : goal.returns-then-not-records_fit
returns-then-not-records_fit c =
    let a = c.args in
    no_fit a.role a.file.now a.t c.refused-then-not-records_fit.ensures (sym c.if-not-is_well_formed.ensures)
    (sym c.if-not-is_file.ensures) (sym c.if-not-records_fit.ensures)

pub returns : goal.returns
returns c =
    let a = c.args in
    searched a.role a.file.now a.t c.poll_accept_among.ensures (sym c.if-not-is_well_formed.ensures)
    (sym c.if-not-is_file.ensures) (sym c.if-not-records_fit.ensures)
