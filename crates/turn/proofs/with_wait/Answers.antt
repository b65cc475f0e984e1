use borrow.Author.Tests.{lt-ltb}
use Rattle.turn.specs.Bits.{or_bit, one_bit}
use Rattle.turn.proofs.with_wait.Goals as goal

pub returns : goal.returns
returns c =
    let h = c.if-slot-ge16.false in
    rw (lt-ltb c.args.slot 16 h, one_bit c.args.slot h) (or_bit c.args.slot c.args.waiting)
