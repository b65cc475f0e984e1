-- The recording of events: document 02, L1. Assumes nothing.
use Rattle.std.specs.Prelude.{ℕ, Bool, true, false, ◌&&◌, ◌||◌, List, [], ◌∷◌, eqb, leb, length, take, drop}
use Rattle.std.proofs.Math.Option.{Option, none, some}
use Rattle.hci.specs.Read.{event_in}
use Rattle.completed_packets.specs.Read.{completed_in}
use Rattle.btsnoop_read.specs.Format.{Record, record_of}

-- events that stand one after another, with the length, the drops and the timestamp of each: whole, received (bit 0), an event
-- (bit 1)
unfoldable pub event_records : List ℕ → List ℕ → List ℕ → List ℕ → List Record
event_records es (n ∷ ns) (d ∷ ds) (t ∷ ts) = record_of n 3 d t (take n es) ∷ event_records (drop n es) ns ds ts
event_records es [] ds ts = []
event_records es (n ∷ ns) [] ts = []
event_records es (n ∷ ns) (d ∷ ds) [] = []

-- ---- the form: 9 where it is false

abbrev pub is_some : {A : Type 0} → Option A → Bool
is_some none = false
is_some (some a) = true

-- "an event that document 01 reads"
unfoldable pub is_read : List ℕ → Bool
is_read s = is_some (event_in s) || is_some (completed_in s)

-- each part is such an event, and nothing is left
unfoldable pub parts_read : List ℕ → List ℕ → Bool
parts_read es [] = eqb 0 (length es)
parts_read es (n ∷ ns) = leb n (length es) && (is_read (take n es) && parts_read (drop n es) ns)

unfoldable pub events_of_form : List ℕ → List ℕ → List ℕ → List ℕ → Bool
events_of_form es ns ds ts = eqb (length ns) (length ds) && (eqb (length ns) (length ts) && parts_read es ns)
