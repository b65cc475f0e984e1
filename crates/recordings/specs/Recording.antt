-- What a recording does: document 02, L1. Each record's event is received, one after another, and what came of it is counted. Over any
-- state T and any way in which an event is received by it, so that one definition serves one table and several. Assumes nothing.
use Rattle.std.specs.Prelude.{ℕ, ◌+◌, ◌%◌, Bool, cond, List, [], ◌∷◌, eqb}
use Rattle.std.proofs.Math.Option.{Option, none, some}
use Rattle.slot.specs.declared.ConnectionManager.{ConnectionManager}
use Rattle.model.specs.Answer.{Refusal, Reply, number_of}
use Rattle.model.specs.Find.{well_formed}
use Rattle.woken_set.specs.declared.WokenSet.{WokenSet}
use Rattle.woken_set.specs.WokenSet.{nobody, joined}
use Rattle.messages.specs.Received.{ReceivedOn, Received, refused_with, received}
use Rattle.btsnoop_read.specs.Format.{Record}
use Rattle.btsnoop_read.specs.Read.{is_header, datalink_in, records_in, told}
use Rattle.recordings.specs.declared.ReplayCounts.{ReplayCounts}

-- ---- the event that a record holds

-- "With 1002 an event starts with byte 04"
abbrev pub behind04 : List ℕ → Option (List ℕ)
behind04 [] = none
behind04 (b ∷ bs) = cond (eqb b 0x04) (some bs) none

-- "Flag bit 0 is received, bit 1 command or event; only records with both"
abbrev pub event_of : ℕ → ℕ → List ℕ → Option (List ℕ)
event_of datalink flags bytes = cond (eqb (flags % 4) 3) (cond (eqb datalink 1002) (behind04 bytes) (some bytes)) none

-- ---- one record

-- how a state receives an event
abbrev pub Receive : Type 0 → Type 0
Receive T = List ℕ → T → ReceivedOn T

-- a record without an event is answered like bytes that are none: 9
unfoldable pub received_event : {T : Type 0} → Receive T → Option (List ℕ) → T → ReceivedOn T
received_event receive none t = refused_with Refusal.Packet t
received_event receive (some s) t = receive s t

abbrev pub received_record : {T : Type 0} → Receive T → ℕ → ℕ → List ℕ → T → ReceivedOn T
received_record receive datalink flags bytes t = received_event receive (event_of datalink flags bytes) t

-- ---- what came of the records so far

abbrev pub no_counts : ReplayCounts
no_counts = record { run = 0; passed_over = 0; refused = 0 }

abbrev pub one_run : ReplayCounts → ReplayCounts
one_run c = record { run = c.run + 1; passed_over = c.passed_over; refused = c.refused }

abbrev pub one_passed_over : ReplayCounts → ReplayCounts
one_passed_over c = record { run = c.run; passed_over = c.passed_over + 1; refused = c.refused }

abbrev pub one_refused : ReplayCounts → ReplayCounts
one_refused c = record { run = c.run; passed_over = c.passed_over; refused = c.refused + 1 }

-- "only records with both and an event that document 01 reads are run, the others, any refused with 9 too, counted as passed over. One
-- that the table refuses is counted as refused"
unfoldable pub counted : ℕ → ReplayCounts → ReplayCounts
counted number c = cond (eqb number 0) (one_run c) (cond (eqb number (number_of Refusal.Packet)) (one_passed_over c) (one_refused c))

-- the counts, whom the records have woken together, and the state
pub record Running (T : Type 0) : Type 0 where
  pub counts : ReplayCounts
  pub woken : WokenSet
  pub table : T

abbrev pub started : {T : Type 0} → T → Running T
started t = record { counts = no_counts; woken = nobody; table = t }

-- ".. and the run goes on": by what a record was answered
abbrev pub ran : {T : Type 0} → Running T → ReceivedOn T → Running T
ran p r =
    record { counts = counted r.reply.number p.counts; woken = joined p.woken r.woken; table = r.table }

abbrev pub ran_record : {T : Type 0} → Receive T → ℕ → Running T → Record → Running T
ran_record receive datalink p r = ran p (received_record receive datalink r.flags r.bytes p.table)

-- ---- the whole

abbrev pub count_values : ReplayCounts → List ℕ
count_values c = c.run ∷ c.passed_over ∷ c.refused ∷ []

-- "calls before the bad record stand, with the counts so far told": 12, where not all records are whole, has the counts too
abbrev pub told_of : {T : Type 0} → Running T × Bool → ReceivedOn T
told_of (p, whole) =
    record {
      reply = record { number = cond whole 0 (number_of Refusal.Record); values = count_values p.counts };
      woken = p.woken;
      table = p.table;
    }

-- "11 for a wrong header, then 12"
abbrev pub ran_recording : {T : Type 0} → Receive T → List ℕ → T → ReceivedOn T
ran_recording receive s t =
    cond (is_header s) (told_of (told (ran_record receive (datalink_in s)) (started t) (records_in s)))
    (refused_with Refusal.Header t)

-- 8 first, as in any call on a table
abbrev pub replayed : List ℕ → ConnectionManager → Received
replayed s t = cond (well_formed t) (ran_recording received s t) (refused_with Refusal.Setup t)

-- which it can answer
abbrev pub recording_numbers : List ℕ
recording_numbers = 0 ∷ 8 ∷ 11 ∷ 12 ∷ []
