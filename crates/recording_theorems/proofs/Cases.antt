-- Recordings and tables that the statements speak of, so that no hypothesis is met by nothing. Assumes nothing.
use Rattle.std.specs.Prelude.{ℕ, zero, suc, ◌+◌, ◌<◌, ◌^◌, ◌≡◌, ◌≢◌, Bool, true, false, ◌&&◌, List, [], ◌∷◌, ◌++◌, ltb, length, take, replicate}
use Rattle.std.proofs.Math.Path.{refl}
use Rattle.std.proofs.Math.Option.{some}
use Rattle.std.proofs.Common.{arith, ltb-true}
use Rattle.slot.specs.declared.ConnectionManager.{ConnectionManager}
use Rattle.model.specs.Answer.{ok}
use Rattle.model.specs.Find.{slots_ok, held_by, well_formed}
use Rattle.model.proofs.Laws.{and_left, and_right}
use Rattle.model.specs.Calls.{Call}
use Rattle.model.specs.History.{Reached, new, no_table, after, outcomes}
use Rattle.limits.specs.Limits.{within}
use Rattle.completed_packets.specs.Format.{handles_fit}
use Rattle.completed_packets.specs.Read.{raw_pairs}
use Rattle.woken_set.specs.WokenSet.{nobody}
use Rattle.wire.specs.Wire.{written}
use Rattle.messages.specs.Received.{received, woken_by}
use Rattle.big_endian.specs.BigEndian.{be, be_at}
use Rattle.big_endian.specs.Laws.{Bytes}
use Rattle.btsnoop_read.specs.Format.{Record, record_of, records_bytes, recording_bytes, AllOfForm}
use Rattle.btsnoop_read.specs.Read.{is_whole, records_from, records_in, recording_in}
use Rattle.btsnoop_write.specs.Events.{event_records, events_of_form, is_read, parts_read}
use Rattle.btsnoop_write.specs.ReadBack.{Below}
use Rattle.recordings.specs.Recording.{replayed}
use Rattle.recording_theorems.specs.Statement.{total, before, Slices, event_recording, recording_calls, ReadsWritten, ReadsOnlyWritten, EventsReadBack, LeftReadBack, AsGiven, WritesAsGiven, TakesWhatIsRead, RecordingRuns, RecordingReached, EachCounted, PassesNone, RecordingRefusals}

-- ---- four events: a link is made, two of its packets are completed, it is updated, it closes

abbrev pub complete : List ℕ
complete =
    0x3E ∷ 0x13 ∷ 0x01 ∷ 0x00 ∷ 0x40 ∷ 0x00 ∷ 0x01 ∷ 0x00 ∷ 0x66 ∷ 0x55 ∷ 0x44 ∷ 0x33 ∷ 0x22 ∷ 0x11 ∷ 0x18 ∷ 0x00 ∷ 0x00 ∷ 0x00 ∷ 0xC8
    ∷ 0x00 ∷ 0x00 ∷ []

abbrev pub completed : List ℕ
completed = 0x13 ∷ 0x05 ∷ 0x01 ∷ 0x40 ∷ 0x00 ∷ 0x02 ∷ 0x00 ∷ []

abbrev pub updated : List ℕ
updated = 0x3E ∷ 0x0A ∷ 0x03 ∷ 0x00 ∷ 0x40 ∷ 0x00 ∷ 0x28 ∷ 0x00 ∷ 0x00 ∷ 0x00 ∷ 0xC8 ∷ 0x00 ∷ []

abbrev pub closed : List ℕ
closed = 0x05 ∷ 0x04 ∷ 0x00 ∷ 0x40 ∷ 0x00 ∷ 0x13 ∷ []

abbrev events : List ℕ
events = complete ++ completed ++ updated ++ closed

abbrev lengths : List ℕ
lengths = 21 ∷ 7 ∷ 12 ∷ 6 ∷ []

abbrev drops : List ℕ
drops = 0 ∷ 1 ∷ 2 ∷ 0xFFFFFFFF ∷ []

-- the last is before 1 January of year 0: a negative number of 64 bits
abbrev timestamps : List ℕ
timestamps = 0x00E03AB44A676000 ∷ 0x00E03AB44A676000 ∷ 5 ∷ 0xFFFFFFFFFFFFFFFF ∷ []

abbrev four : List Record
four =
    record_of 21 3 0 0x00E03AB44A676000 complete
    ∷ record_of 7 3 1 0x00E03AB44A676000 completed
    ∷ record_of 12 3 2 5 updated
    ∷ record_of 6 3 0xFFFFFFFF 0xFFFFFFFFFFFFFFFF closed
    ∷ []

abbrev four_bytes : List ℕ
four_bytes = recording_bytes 1001 four

-- its last byte is missing
abbrev cut_bytes : List ℕ
cut_bytes = take 157 four_bytes

abbrev one_slot : ConnectionManager
one_slot = (new 1 251 4).table

-- ---- numbers within bounds, by computing

abbrev all_below : ℕ → List ℕ → Bool
all_below m [] = true
all_below m (x ∷ xs) = ltb x m && all_below m xs

below_by : (m : ℕ) (xs : List ℕ) → 0 < m → all_below m xs ≡ true → Below m xs
below_by m [] p e i = p
below_by m (x ∷ xs) p e zero = ltb-true x m (and_left (ltb x m) _ e)
below_by m (x ∷ xs) p e (suc i) = below_by m xs p (and_right (ltb x m) _ e) i

four_bytes_lem : Bytes four_bytes
unfolding be records_bytes
four_bytes_lem = below_by 256 four_bytes (omega arith) refl

cut_bytes_lem : Bytes cut_bytes
unfolding be records_bytes
cut_bytes_lem = below_by 256 cut_bytes (omega arith) refl

slices : Slices events lengths drops timestamps
slices =
    record {
      events = below_by 256 events (omega arith) refl;
      lengths = below_by (2 ^ 16) lengths (omega arith) refl;
      drops = below_by (2 ^ 32) drops (omega arith) refl;
      timestamps = below_by (2 ^ 64) timestamps (omega arith) refl;
    }

-- ---- each statement at work

module _ (law : ReadsOnlyWritten) where
  -- each of the four is of the form
  pub of_form_lem : AllOfForm four
  unfolding ReadsOnlyWritten be be_at records_bytes is_whole records_from
  of_form_lem = (law four_bytes 1001 four four_bytes_lem refl).2

  module _ (back : ReadsWritten) where
    pub read_back : recording_in four_bytes ≡ some (1001, four)
    unfolding ReadsWritten
    read_back = back 1001 four refl of_form_lem

pub events_back : EventsReadBack → recording_in (event_recording events lengths drops timestamps) ≡ some (1001, four)
unfolding EventsReadBack event_records
events_back law = law events lengths drops timestamps slices

-- what is left in a slice that is a byte longer
pub left_back : LeftReadBack
    → recording_in (take 158 (written true (event_recording events lengths drops timestamps) (replicate 159 0xAA))) ≡ some (1001, four)
unfolding LeftReadBack event_records be records_bytes
left_back law = law events lengths drops timestamps (replicate 159 0xAA) slices (omega arith)

pub as_given : WritesAsGiven → AsGiven events lengths drops timestamps four
unfolding WritesAsGiven event_records events_of_form parts_read is_read within raw_pairs handles_fit
as_given law = law events lengths drops timestamps refl

-- a status other than 0, no pairs, and Command Complete, which is not read
abbrev failure : List ℕ
failure = 0x05 ∷ 0x04 ∷ 0x01 ∷ 0x40 ∷ 0x00 ∷ 0x13 ∷ []

abbrev no_pairs : List ℕ
no_pairs = 0x13 ∷ 0x01 ∷ 0x00 ∷ []

abbrev unread : List ℕ
unread = 0x0E ∷ 0x04 ∷ 0x01 ∷ 0x03 ∷ 0x0C ∷ 0x00 ∷ []

module _ (law : TakesWhatIsRead) where
  pub taken : ((received failure one_slot).reply.number ≢ 9) × ((received no_pairs one_slot).reply.number ≢ 9)
  unfolding TakesWhatIsRead is_read within raw_pairs handles_fit
  taken = ((law failure one_slot).0 refl, (law no_pairs one_slot).0 refl)

  pub not_taken : (received unread one_slot).reply.number ≡ 9
  unfolding TakesWhatIsRead is_read within raw_pairs handles_fit
  not_taken = (law unread one_slot).1 refl

-- the four wake who waits as a Peripheral and the link's four, by four calls
abbrev four_calls : List Call
four_calls = recording_calls four_bytes one_slot

module _ (law : RecordingRuns) where
  pub four_run : ((replayed four_bytes one_slot).table ≡ after four_calls one_slot)
      × ((replayed four_bytes one_slot).woken ≡ woken_by (outcomes four_calls one_slot) nobody)
  unfolding RecordingRuns
  four_run = law four_bytes one_slot

module _ (law : RecordingReached) where
  pub four_reached : Reached (replayed four_bytes one_slot).table
  unfolding RecordingReached
  four_reached =
      law four_bytes one_slot
      (record { slots = 1; packet_mtu = 251; packets = 4; fresh = refl; calls = []; leads = refl })

module _ (law : EachCounted) where
  -- of the four; and of the three before a record that is cut short
  pub four_counted : total (replayed four_bytes one_slot).reply.values ≡ 4
  unfolding EachCounted be be_at records_bytes is_whole records_from well_formed slots_ok held_by
  four_counted = law four_bytes one_slot refl refl

  pub three_counted : total (replayed cut_bytes one_slot).reply.values ≡ 3
  unfolding EachCounted be be_at records_bytes is_whole records_from well_formed slots_ok held_by
  three_counted = law cut_bytes one_slot refl refl

module _ (law : PassesNone) where
  pub none_passed : (run : ℕ) × (refused : ℕ)
      × ((replayed (event_recording events lengths drops timestamps) one_slot).reply ≡ ok (run ∷ 0 ∷ refused ∷ [])) × (run + refused ≡ 4)
  unfolding PassesNone events_of_form parts_read is_read within raw_pairs handles_fit well_formed slots_ok held_by
  none_passed = law events lengths drops timestamps one_slot slices refl refl

module _ (law : RecordingRefusals) where
  pub eight : (replayed four_bytes no_table).table ≡ no_table
  unfolding RecordingRefusals well_formed slots_ok held_by
  eight = ((law four_bytes no_table).unchanged (λ e. omega (arith, e)) (λ e. omega (arith, e))).0

  pub eleven : (replayed closed one_slot).woken ≡ nobody
  unfolding RecordingRefusals well_formed slots_ok held_by
  eleven = ((law closed one_slot).unchanged (λ e. omega (arith, e)) (λ e. omega (arith, e))).1

  -- what the three before the one that is cut short did stays: the link was made, its packets completed, the update refused
  pub twelve : replayed (recording_bytes 1001 (take 3 four)) one_slot
      ≡ record {
        reply = ok (replayed cut_bytes one_slot).reply.values;
        woken = (replayed cut_bytes one_slot).woken;
        table = (replayed cut_bytes one_slot).table;
      }
  unfolding RecordingRefusals be be_at records_bytes is_whole records_from well_formed slots_ok held_by
  twelve = ((law cut_bytes one_slot).cut_short refl cut_bytes_lem).3

  -- what stands behind them is no whole record, whatever the recording
  pub cut_behind : (s : List ℕ) (t : ConnectionManager) → (replayed s t).reply.number ≡ 12 → Bytes s → is_whole s (length (before s)) ≡ false
  unfolding RecordingRefusals
  cut_behind s t n b = ((law s t).cut_short n b).2
