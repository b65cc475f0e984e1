-- Where the columns of the case stand. Assumes nothing.
use Rattle.std.specs.Prelude.{ℕ, zero, suc, ◌≡◌, refl, Bool, true, ◌&&◌, List, [], ◌∷◌, ◌++◌, ltb, take, replicate}
use Rattle.std.proofs.Math.Option.{some}
use Rattle.std.proofs.Common.{arith, ltb-true}
use Rattle.model.specs.Answer.{ok}
use Rattle.model.proofs.Laws.{and_left, and_right}
use Rattle.big_endian.specs.BigEndian.{be, be_at}
use Rattle.big_endian.specs.Laws.{Bytes}
use Rattle.btsnoop_read.specs.Format.{Record, record_of, records_bytes}
use Rattle.btsnoop_read.specs.Read.{is_whole, records_from, recording_in}
use Rattle.btsnoop_columns.specs.Format.{column, differenced, data_length}
use Rattle.btsnoop_columns.specs.Read.{stand, included_total, none_longer, is_arranged, gathered, summed, arranged, recorded}
use Rattle.btsnoop_columns.specs.Answer.{to_columns_of, to_columns_left, from_columns_of, from_columns_left}
use Rattle.btsnoop_columns.specs.Statement.{told, PairsTell}
use Rattle.btsnoop_columns.proofs.There.{there_and_back}
use Rattle.btsnoop_columns.proofs.Back.{back_and_there, each_pair_tells}
use Rattle.btsnoop_columns.proofs.Left.{left_there_and_back, left_back_and_there}
use Rattle.btsnoop_columns.proofs.Cases.{arrangement, tell_two}

-- the pairs of the drops, the timestamps and the bytes
pub tells : (told arrangement 2 ≡ 0x00 ∷ 0x00 ∷ 0x00 ∷ 0x00 ∷ 0x00 ∷ 0x00 ∷ 0x00 ∷ 0x09 ∷ [])
    × (told arrangement 3
    ≡ 0x00 ∷ 0x00 ∷ 0x00 ∷ 0x00 ∷ 0x00 ∷ 0x00 ∷ 0x00 ∷ 0x07 ∷ 0xFF ∷ 0xFF ∷ 0xFF ∷ 0xFF ∷ 0xFF ∷ 0xFF ∷ 0xFF ∷ 0xFD ∷ [])
    × (told arrangement 4 ≡ 0x0E ∷ 0x04 ∷ 0xAB ∷ [])
unfolding be column differenced
tells = (tell_two.of_drops, tell_two.of_timestamps, tell_two.of_bytes)
