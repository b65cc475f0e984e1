use Rattle.turn.specs.Laws.{turn_high, turn_low, none_high, none_past}
use Rattle.turn.proofs.next_waiting.Goals as goal

pub returns-then-turn-ge16 : goal.returns-then-turn-ge16
returns-then-turn-ge16 c =
    let b = c.ranges.waiting.fits in
    turn_low c.args.waiting c.args.turn b (none_past _ _ c.if-turn-ge16.true b)

pub returns-then-from-eq0 : goal.returns-then-from-eq0
returns-then-from-eq0 c =
    let b = c.ranges.waiting.fits in
    turn_low c.args.waiting c.args.turn b
    (none_high _ _ c.if-turn-ge16.false b c.if-from-eq0.true)

pub returns : goal.returns
returns c =
    turn_high c.args.waiting c.args.turn c.if-turn-ge16.false
    c.ranges.waiting.fits c.if-from-eq0.false
