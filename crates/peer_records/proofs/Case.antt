-- Cases of `ExactlyOne`, `RecordsApart` and `ValuesFit`, which use each hypothesis of them. Assumes nothing.
use Rattle.std.specs.Prelude.{ℕ, ◌≤◌, refl, List, [], ◌∷◌}
use Rattle.std.proofs.Common.{arith}
use Rattle.slot.specs.declared.Address.{Address}
use Rattle.peer_records.specs.Below.{all_below}
use Rattle.peer_records.specs.Format.{offset_at, end_at, earliest, record_at, peer_in, role_in}
use Rattle.peer_records.specs.Apart.{RecordsApart, ValuesFit}
use Rattle.peer_records.specs.One.{OneInForce, ExactlyOne}
use Rattle.peer_records.proofs.Newest.{exactly_one}

-- two records of one peer, at 10 and 24, with serials 6 and 5, for a Central and for a Peripheral
abbrev pub two_records : List ℕ
two_records =
    2 ∷ 0
    ∷ 10 ∷ 0 ∷ 14 ∷ 0
    ∷ 24 ∷ 0 ∷ 14 ∷ 0
    ∷ 0 ∷ 1 ∷ 2 ∷ 3 ∷ 4 ∷ 5 ∷ 6 ∷ 6 ∷ 0 ∷ 0 ∷ 0 ∷ 0 ∷ 0 ∷ 0
    ∷ 0 ∷ 1 ∷ 2 ∷ 3 ∷ 4 ∷ 5 ∷ 6 ∷ 5 ∷ 0 ∷ 0 ∷ 0 ∷ 1 ∷ 0 ∷ 0
    ∷ []

abbrev pub its_peer : Address
its_peer = record { kind = 0; addr = record { 0 = 1; 1 = 2; 2 = 3; 3 = 4; 4 = 5; 5 = 6 } }

-- by its second record, which is not the one in force
pub one_of_two : OneInForce two_records its_peer
unfolding ExactlyOne record_at
one_of_two = exactly_one two_records its_peer 1 (omega arith) refl refl

-- the second record stands behind the first, and to the end of the file; its role is 1
pub apart : RecordsApart → (end_at two_records 0 ≤ 24) × (end_at two_records 1 ≤ 38) × (10 ≤ offset_at two_records 0)
unfolding RecordsApart all_below earliest
apart law =
    let a = law two_records refl in (a.behind 0 1 (omega arith) (omega arith), a.inside 1 (omega arith), a.behind_pairs 0 (omega arith))

pub fit : ValuesFit → ((role_in (record_at two_records 1)) ≤ 1) × ((peer_in (record_at two_records 1)).kind ≤ 1)
unfolding ValuesFit all_below record_at
fit law = law two_records refl 1 (omega arith) refl
