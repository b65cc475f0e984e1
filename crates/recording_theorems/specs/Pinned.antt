-- The number and values of each answer of the code: the map and the code that goes by it can be changed together and still agree, and
-- these lines do not change with them. Assumes nothing.
use Rattle.std.specs.Prelude.{◌≡◌, refl, Ok, Err, [], ◌∷◌}
use Rattle.host_recording.specs.declared.ReplayError.TheVariants as error
use Rattle.host_recording.specs.Answer.{replay_reply}

pub setup : replay_reply (Err error.Setup) ≡ record { number = 8; values = [] }
setup = refl

pub header : replay_reply (Err error.Header) ≡ record { number = 11; values = [] }
header = refl

pub cut_short : replay_reply (Err (error.Record (record { run = 1; passed_over = 2; refused = 3 }))) ≡ record { number = 12; values = 1 ∷ 2 ∷ 3 ∷ [] }
cut_short = refl

pub done : replay_reply (Ok (record { run = 1; passed_over = 2; refused = 3 })) ≡ record { number = 0; values = 1 ∷ 2 ∷ 3 ∷ [] }
done = refl
