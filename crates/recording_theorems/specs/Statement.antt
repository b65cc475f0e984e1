-- What is proved of recordings, each one closed statement. They are proved in Written.antt, Reach.antt, Counts.antt and Before.antt;
-- Cases.antt has recordings and tables that they speak of. Assumes nothing.
use Rattle.std.specs.Prelude.{ℕ, ◌+◌, ◌<◌, ◌≤◌, ◌^◌, ◌≡◌, ◌≢◌, true, false, cond, List, [], ◌∷◌, ◌++◌, map, length, take, drop, replicate}
use Rattle.std.proofs.Math.Option.{Option, none, some}
use Rattle.slot.specs.declared.ConnectionManager.{ConnectionManager}
use Rattle.model.specs.Answer.{ok}
use Rattle.model.specs.Find.{well_formed}
use Rattle.model.specs.Calls.{Call}
use Rattle.model.specs.History.{Reached, after}
use Rattle.number_theorems.specs.Numbers.{is_in}
use Rattle.woken_set.specs.WokenSet.{nobody}
use Rattle.messages.specs.Received.{Received, received}
use Rattle.message_theorems.specs.Reach.{calls_of, RunOf}
use Rattle.wire.specs.Wire.{written}
use Rattle.big_endian.specs.Laws.{Bytes}
use Rattle.btsnoop_read.specs.Format.{Record, recording_bytes, is_datalink, AllOfForm}
use Rattle.btsnoop_read.specs.Read.{is_header, is_whole, datalink_in, records_in, recording_in}
use Rattle.btsnoop_write.specs.Events.{is_read, event_records, events_of_form}
use Rattle.btsnoop_write.specs.ReadBack.{Below}
use Rattle.recordings.specs.Recording.{event_of, replayed, recording_numbers}

-- ---- records and their bytes

-- what is written is read: "reading it must return the same records"
unfoldable pub ReadsWritten : Type 0
ReadsWritten =
    (d : ℕ) (rs : List Record) → is_datalink d ≡ true → AllOfForm rs → recording_in (recording_bytes d rs) ≡ some (d, rs)

-- and nothing else is read
unfoldable pub ReadsOnlyWritten : Type 0
ReadsOnlyWritten =
    (s : List ℕ) (d : ℕ) (rs : List Record) → Bytes s → recording_in s ≡ some (d, rs)
    → (recording_bytes d rs ≡ s) × (is_datalink d ≡ true) × AllOfForm rs

-- four slices that the writer takes: numbers of 8, 16, 32 and 64 bits
pub record Slices (es ns ds ts : List ℕ) : Type 0 where
  pub events : Bytes es
  pub lengths : Below (2 ^ 16) ns
  pub drops : Below (2 ^ 32) ds
  pub timestamps : Below (2 ^ 64) ts

-- what the writer of events writes
abbrev pub event_recording : List ℕ → List ℕ → List ℕ → List ℕ → List ℕ
event_recording es ns ds ts = recording_bytes 1001 (event_records es ns ds ts)

unfoldable pub EventsReadBack : Type 0
EventsReadBack =
    (es ns ds ts : List ℕ) → Slices es ns ds ts → recording_in (event_recording es ns ds ts) ≡ some (1001, event_records es ns ds ts)

-- the same of the bytes that the writer leaves in a slice in which they find room
unfoldable pub LeftReadBack : Type 0
LeftReadBack =
    (es ns ds ts out : List ℕ) → Slices es ns ds ts → length (event_recording es ns ds ts) ≤ length out
    → recording_in (take (length (event_recording es ns ds ts)) (written true (event_recording es ns ds ts) out))
    ≡ some (1001, event_records es ns ds ts)

abbrev pub bytes_of : List Record → List ℕ
bytes_of [] = []
bytes_of (r ∷ rs) = r.bytes ++ bytes_of rs

-- "original length as included, flags 3, drops and timestamps as given", and the events' bytes one after another
pub record AsGiven (es ns ds ts : List ℕ) (rs : List Record) : Type 0 where
  pub events : bytes_of rs ≡ es
  pub included : map (λ (r : Record). length r.bytes) rs ≡ ns
  pub original : map (λ (r : Record). r.original) rs ≡ ns
  pub flags : map (λ (r : Record). r.flags) rs ≡ replicate (length ns) 3
  pub drops : map (λ (r : Record). r.drops) rs ≡ ds
  pub timestamps : map (λ (r : Record). r.timestamp) rs ≡ ts

unfoldable pub WritesAsGiven : Type 0
WritesAsGiven = (es ns ds ts : List ℕ) → events_of_form es ns ds ts ≡ true → AsGiven es ns ds ts (event_records es ns ds ts)

-- an event that the writer takes is one that the table does not answer with 9, and the other way round
unfoldable pub TakesWhatIsRead : Type 0
TakesWhatIsRead =
    (s : List ℕ) (t : ConnectionManager)
    → (is_read s ≡ true → (received s t).reply.number ≢ 9) × (is_read s ≡ false → (received s t).reply.number ≡ 9)

-- ---- a recording is a list of calls

-- those that an event runs; none where there is no event
abbrev pub event_calls : Option (List ℕ) → ConnectionManager → List Call
event_calls none t = []
event_calls (some s) t = calls_of s t

abbrev pub record_calls : ℕ → Record → ConnectionManager → List Call
record_calls datalink r t = event_calls (event_of datalink r.flags r.bytes) t

-- record by record, each on the table that the last one left
abbrev pub records_calls : ℕ → List Record → ConnectionManager → List Call
records_calls datalink [] t = []
records_calls datalink (r ∷ rs) t = record_calls datalink r t ++ records_calls datalink rs (after (record_calls datalink r t) t)

-- those of the records before the first that is not whole; none with 8 and with 11
abbrev pub recording_calls : List ℕ → ConnectionManager → List Call
recording_calls s t = cond (well_formed t) (cond (is_header s) (records_calls (datalink_in s) (records_in s).records t) []) []

-- its table is that of these calls, and it wakes those whom they wake and nobody else
unfoldable pub RecordingRuns : Type 0
RecordingRuns = (s : List ℕ) (t : ConnectionManager) → RunOf (recording_calls s t) t (replayed s t)

unfoldable pub RecordingReached : Type 0
RecordingReached = (s : List ℕ) (t : ConnectionManager) → Reached t → Reached (replayed s t).table

-- ---- what it answers

-- that none of these is idle is computed in recording_rows
unfoldable pub RecordingNumbers : Type 0
RecordingNumbers = (s : List ℕ) (t : ConnectionManager) → is_in (replayed s t).reply.number recording_numbers ≡ true

abbrev pub total : List ℕ → ℕ
total [] = 0
total (v ∷ vs) = v + total vs

-- run, passed over and refused make the records before the first that is not whole
unfoldable pub EachCounted : Type 0
EachCounted =
    (s : List ℕ) (t : ConnectionManager) → well_formed t ≡ true → is_header s ≡ true
    → total (replayed s t).reply.values ≡ length (records_in s).records

-- of a recording that the writer of events wrote none is passed over
unfoldable pub PassesNone : Type 0
PassesNone =
    (es ns ds ts : List ℕ) (t : ConnectionManager) → Slices es ns ds ts → events_of_form es ns ds ts ≡ true → well_formed t ≡ true
    → (run : ℕ) × (refused : ℕ) × ((replayed (event_recording es ns ds ts) t).reply ≡ ok (run ∷ 0 ∷ refused ∷ [])) × (run + refused ≡ length ns)

-- ---- what a refused recording leaves behind

-- the recording of the records before the first that is not whole
abbrev pub before : List ℕ → List ℕ
before s = recording_bytes (datalink_in s) (records_in s).records

-- 8 and 11 leave the table and wake nobody. 12 joins rows 4 and 5 of document 01's table, as what changes it: "calls before the bad
-- record stand, with the counts so far told". `before s` stands at the start of s, what stands behind it is no whole record, and values,
-- waiters and table are those of `before s`, which is answered 0.
pub record RecordingLeft (s : List ℕ) (t : ConnectionManager) (r : Received) : Type 0 where
  pub unchanged : r.reply.number ≢ 0 → r.reply.number ≢ 12 → (r.table ≡ t) × (r.woken ≡ nobody)
  pub cut_short : r.reply.number ≡ 12 → Bytes s
      → (before s ++ drop (length (before s)) s ≡ s)
      × (length (before s) < length s)
      × (is_whole s (length (before s)) ≡ false)
      × (replayed (before s) t ≡ record { reply = ok r.reply.values; woken = r.woken; table = r.table })

unfoldable pub RecordingRefusals : Type 0
RecordingRefusals = (s : List ℕ) (t : ConnectionManager) → RecordingLeft s t (replayed s t)
