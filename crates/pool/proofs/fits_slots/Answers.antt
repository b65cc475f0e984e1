use Rattle.pool.specs.Laws.{fits_wide}
use Rattle.pool.proofs.fits_slots.Goals as goal

pub returns-then-count-ge16 : goal.returns-then-count-ge16
returns-then-count-ge16 c =
    let a = c.args in
    fits_wide a.count a.pool c.if-pool-lt1.false c.struct_known-1.given.0.fits c.if-pool.false
    c.if-turn-count.false c.if-count-ge16.true c.struct_known-1.given.1.1.0.fits
