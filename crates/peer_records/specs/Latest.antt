-- The record in force of a peer, found in one pass over the file, and with it the proof of `ExactlyOne` and what a peer's role is.
-- Assumes nothing.
use Prim.Native.Nat.{ℕ, zero, suc}
use Rattle.std.specs.Prelude.{Option, None, Bool, cond, ◌&&◌, List, leb}
use Rattle.slot.specs.declared.Address.{Address}
use Rattle.model.specs.Calls.{same_address}
use Rattle.peer_records.specs.declared.PeerRecord.{PeerRecord}
use Rattle.peer_records.specs.Format.{record_at, is_readable, peer_in, serial_in}

-- the record r takes the place of the best so far: it is a readable one of the peer, and its serial is not below
abbrev pub takes : Option PeerRecord → Option PeerRecord → Address → Bool
takes best r p = is_readable r && (same_address (peer_in r) p && leb (serial_in best) (serial_in r))

abbrev pub newer : Option PeerRecord → Option PeerRecord → Address → Option PeerRecord
newer best r p = cond (takes best r p) r best

-- the best of the first n
unfoldable pub latest : List ℕ → Address → ℕ → Option PeerRecord
latest s p zero = None
latest s p (suc n) = newer (latest s p n) (record_at s n) p
