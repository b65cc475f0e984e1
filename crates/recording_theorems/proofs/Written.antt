-- What is written is read, and the recordings of events. Assumes nothing.
use Rattle.std.specs.Prelude.{ℕ, ◌+◌, ◌≡◌, refl, Bool, true, false, cond, List, [], ◌∷◌, ◌++◌, leb, length, take, drop}
use Rattle.std.proofs.Common.{sym, ap, ◌∙◌, arith, le-leb, leb-true, eqb-true, take-append-drop, length-take-le}
use Rattle.std.proofs.Math.Option.{Option, some}
use Rattle.std.proofs.Math.Seq.{take-append_seam}
use Rattle.slot.specs.declared.ConnectionManager.{ConnectionManager}
use Rattle.model.specs.Answer.{Reply, ok}
use Rattle.model.specs.Find.{well_formed}
use Rattle.model.proofs.Laws.{and_left, and_right}
use Rattle.messages.specs.Received.{received}
use Rattle.btsnoop_read.specs.Format.{Record}
use Rattle.btsnoop_read.specs.Read.{is_header, datalink_in, records_in, folded}
use Rattle.btsnoop_read.proofs.Inverse.{read_written, accepted, in_form}
use Rattle.wire.specs.Wire.{written}
use Rattle.btsnoop_write.specs.Events.{is_read, event_records, parts_read, events_of_form}
use Rattle.btsnoop_write.specs.Laws.{fit}
use Rattle.btsnoop_write.specs.ReadBack.{recorded_read}
use Rattle.recordings.specs.Recording.{Running, count_values, started, ran_record, replayed}
use Rattle.recording_theorems.specs.Statement.{total, Slices, event_recording, ReadsWritten, ReadsOnlyWritten, EventsReadBack, LeftReadBack, AsGiven, WritesAsGiven, EachCounted, PassesNone}
use Rattle.recording_theorems.proofs.Counts.{counts_all, passes_none}

pub reads_written : ReadsWritten
unfolding ReadsWritten
reads_written d rs known f = read_written d rs known f

pub reads_only_written : ReadsOnlyWritten
unfolding ReadsOnlyWritten
reads_only_written s d rs b e = accepted s d rs b e

pub events_read_back : EventsReadBack
unfolding EventsReadBack
events_read_back es ns ds ts s = recorded_read es ns ds ts s.events s.lengths s.drops s.timestamps

pub left_read_back : LeftReadBack
unfolding LeftReadBack
left_read_back es ns ds ts out s h =
    let m = event_recording es ns ds ts in
    rw (le-leb (length m) (length out) h, take-append_seam m (drop (length m) out))
    (recorded_read es ns ds ts s.events s.lengths s.drops s.timestamps)

-- ---- as they were given

as_given : (es ns ds ts : List ℕ) → length ns ≡ length ds → length ns ≡ length ts → parts_read es ns ≡ true
    → AsGiven es ns ds ts (event_records es ns ds ts)
unfolding event_records parts_read
as_given [] [] [] [] h k e = record { events = refl; included = refl; original = refl; flags = refl; drops = refl; timestamps = refl }
as_given (x ∷ es) [] ds ts h k e = absurd (omega (arith, eqb-true 0 (length (x ∷ es)) e))
as_given [] [] (d ∷ ds) ts h k e = absurd (omega arith)
as_given [] [] [] (t ∷ ts) h k e = absurd (omega arith)
as_given es (n ∷ ns) [] ts h k e = absurd (omega arith)
as_given es (n ∷ ns) (d ∷ ds) [] h k e = absurd (omega arith)
as_given es (n ∷ ns) (d ∷ ds) (t ∷ ts) h k e =
    let m = leb-true n (length es) (and_left (leb n (length es)) _ e) in
    let r = and_right (is_read (take n es)) _ (and_right (leb n (length es)) _ e) in
    let i = as_given (drop n es) ns ds ts (omega arith) (omega arith) r in
    record {
      events = ap (λ (l : List ℕ). take n es ++ l) i.events ∙ take-append-drop n es;
      included = λ k. length-take-le n es m k ∷ i.included k;
      original = λ k. n ∷ i.original k;
      flags = λ k. 3 ∷ i.flags k;
      drops = λ k. d ∷ i.drops k;
      timestamps = λ k. t ∷ i.timestamps k;
    }

pub writes_as_given : WritesAsGiven
unfolding WritesAsGiven
writes_as_given es ns ds ts form = let f = fit es ns ds ts form in as_given es ns ds ts f.drops f.timestamps f.parts

-- ---- a recording of events, run

each_a_record : (es ns ds ts : List ℕ) → length ns ≡ length ds → length ns ≡ length ts → length (event_records es ns ds ts) ≡ length ns
unfolding event_records
each_a_record es [] ds ts h k = refl
each_a_record es (n ∷ ns) [] ts h k = absurd (omega arith)
each_a_record es (n ∷ ns) (d ∷ ds) [] h k = absurd (omega arith)
each_a_record es (n ∷ ns) (d ∷ ds) (t ∷ ts) h k = omega (arith, each_a_record (drop n es) ns ds ts (omega arith) (omega arith))

pub passes_none_over : PassesNone
unfolding PassesNone
passes_none_over es ns ds ts t sl form w =
    let f = fit es ns ds ts form in
    let rs = event_records es ns ds ts in
    let x = in_form (event_recording es ns ds ts) 1001 rs (recorded_read es ns ds ts sl.events sl.lengths sl.drops sl.timestamps) in
    let p = folded (ran_record received 1001) (started t) rs in
    let z = passes_none es ns ds ts (started t) f.parts in
    let n = counts_all received 1001 rs (started t) in
    let l = each_a_record es ns ds ts f.drops f.timestamps in (
      p.counts.run,
      p.counts.refused,
      rw (w, x.0, x.1, x.2, x.3, z),
      omega (arith, n, z, l),
    )
