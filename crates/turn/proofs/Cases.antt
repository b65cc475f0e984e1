-- A case of `next_nearest`. Assumes nothing.
use Rattle.std.specs.Prelude.{◌<◌, ◌≡◌, refl, true}
use Rattle.std.proofs.Common.{arith}
use Rattle.turn.specs.Turn.{waits, lowest_waiting, next_waiting}
use Rattle.turn.proofs.Cycle.{steps, next_nearest}

-- of five slots 1 and 2 wait, and the turn is at slot 3: it goes round to slot 1
pub goes_round : next_waiting 6 5 3 ≡ 1
unfolding waits lowest_waiting
goes_round = refl

-- slot 1 is three steps away, and slot 2 four
pub nearest : (1 < 5) × (waits 1 6 ≡ true) × (steps 5 3 1 < steps 5 3 2)
unfolding waits lowest_waiting
nearest =
    let k = next_nearest 6 5 3 2 (omega arith) (omega arith) refl in
    (k.0, k.1, k.2 (omega arith))
