-- In the case of two records, the one in force is the first, and it is the highest. Assumes nothing.
use Rattle.std.specs.Prelude.{◌≤◌, ◌≡◌, refl, true}
use Rattle.std.proofs.Common.{arith}
use Rattle.peer_records.specs.Below.{all_below}
use Rattle.peer_records.specs.Format.{record_at, is_readable, peer_in, serial_in}
use Rattle.peer_records.proofs.Case.{two_records, its_peer, one_of_two}

-- which is the first
pub the_first : 0 ≡ one_of_two.which
unfolding all_below record_at
the_first = one_of_two.only 0 (omega arith) refl refl

-- the serial of the second is not above its own
second_read : (is_readable (record_at two_records 1)) ≡ true
unfolding record_at
second_read = refl

second_peer : (peer_in (record_at two_records 1)) ≡ its_peer
unfolding record_at
second_peer = refl

pub not_above : (serial_in (record_at two_records 1)) ≤ (serial_in (record_at two_records one_of_two.which))
not_above = (one_of_two.highest 1 (omega arith) second_read second_peer).0
