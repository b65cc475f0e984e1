-- A recording is the run of a list of calls. Assumes nothing.
use Rattle.std.specs.Prelude.{ℕ, ◌≡◌, refl, Bool, true, false, cond, List, [], ◌∷◌, ◌++◌, length}
use Rattle.std.proofs.Common.{sym, ap, ◌∙◌}
use Rattle.std.proofs.Math.Option.{Option, none, some}
use Rattle.slot.specs.declared.ConnectionManager.{ConnectionManager}
use Rattle.model.specs.Answer.{Refusal, Outcome}
use Rattle.model.specs.Find.{well_formed}
use Rattle.model.specs.Calls.{Call, run}
use Rattle.model.specs.History.{Reached, after, outcomes}
use Rattle.model_theorems.proofs.Reach.{reached_by}
use Rattle.woken_set.specs.declared.WokenSet.{WokenSet}
use Rattle.woken_set.specs.WokenSet.{nobody, joined}
use Rattle.messages.specs.Received.{Received, refused_with, received, woken_by}
use Rattle.message_theorems.specs.Reach.{RunOf}
use Rattle.message_theorems.proofs.Runs.{received_runs}
use Rattle.btsnoop_read.specs.Format.{Record}
use Rattle.btsnoop_read.specs.Read.{is_header, datalink_in, records_in, folded}
use Rattle.recordings.specs.Recording.{Running, event_of, received_event, started, ran, ran_record, replayed}
use Rattle.recording_theorems.proofs.Union.{Sixteen, woken_length, joined_woken}
use Rattle.recording_theorems.specs.Statement.{event_calls, record_calls, records_calls, recording_calls, RecordingRuns, RecordingReached}

-- ---- lists of calls one after the other

after_append : (cs ds : List Call) (t : ConnectionManager) → after (cs ++ ds) t ≡ after ds (after cs t)
after_append [] ds t = refl
after_append (c ∷ cs) ds t = after_append cs ds (run c t).table

woken_append : (cs ds : List Call) (t : ConnectionManager) (w : WokenSet)
    → woken_by (outcomes (cs ++ ds) t) w ≡ woken_by (outcomes ds (after cs t)) (woken_by (outcomes cs t) w)
woken_append [] ds t w = refl
woken_append (c ∷ cs) ds t w = woken_append cs ds (run c t).table _

-- ---- an event, and records

event_runs : (o : Option (List ℕ)) (t : ConnectionManager) → RunOf (event_calls o t) t (received_event received o t)
unfolding received_event
event_runs none t = (refl, refl)
event_runs (some s) t = received_runs s t

-- what calls make of a table and of the waiters so far
pub record After (cs : List Call) (t : ConnectionManager) (w : WokenSet) (p : Running ConnectionManager) : Type 0 where
  pub table : p.table ≡ after cs t
  pub woken : p.woken ≡ woken_by (outcomes cs t) w

records_run : (d : ℕ) (rs : List Record) (p : Running ConnectionManager) → Sixteen p.woken
    → After (records_calls d rs p.table) p.table p.woken (folded (ran_record received d) p rs)
records_run d [] p e = record { table = refl; woken = refl }
records_run d (r ∷ rs) p e =
    let t = p.table in
    let cs = record_calls d r t in
    let one = event_runs (event_of d r.flags r.bytes) t in
    let q = ran_record received d p r in
    let w : q.woken ≡ woken_by (outcomes cs t) p.woken = ap (joined p.woken) one.1 ∙ joined_woken (outcomes cs t) p.woken e in
    let rest = records_run d rs q (ap (λ (x : WokenSet). length x.links) w ∙ woken_length (outcomes cs t) p.woken ∙ e) in
    let ds = records_calls d rs (after cs t) in
    record {
      table = rest.table ∙ ap (λ (u : ConnectionManager). after (records_calls d rs u) u) one.0 ∙ sym (after_append cs ds t);
      woken =
          rest.woken
          ∙ (λ k. woken_by (outcomes (records_calls d rs (one.0 k)) (one.0 k)) (w k))
          ∙ sym (woken_append cs ds t p.woken);
    }

-- ---- the whole

pub recording_runs : RecordingRuns
unfolding RecordingRuns
recording_runs s t = go (well_formed t) (is_header s) refl refl
  where
    go : (a b : Bool) → well_formed t ≡ a → is_header s ≡ b → RunOf (recording_calls s t) t (replayed s t)
    go true true p q =
        let r = records_run (datalink_in s) (records_in s).records (started t) refl in
        rw (p, q) (r.table, r.woken)
    go true false p q = rw (p, q) (refl, refl)
    go false b p q = rw p (refl, refl)

pub recording_reached : RecordingReached
unfolding RecordingRuns RecordingReached
recording_reached s t r = reached_by (recording_calls s t) t _ (recording_runs s t).0 r
