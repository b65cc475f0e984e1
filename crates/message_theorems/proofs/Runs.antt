-- A received message is the run of its calls, so that the tables reached by messages are reached tables. Assumes nothing.
use Rattle.std.specs.Prelude.{ℕ, ◌≡◌, refl, Bool, true, false, cond, List, []}
use Rattle.std.proofs.Math.Option.{Option, none, some}
use Rattle.slot.specs.declared.ConnectionManager.{ConnectionManager}
use Rattle.model.specs.Answer.{Refusal, Reply, Outcome}
use Rattle.model.specs.Find.{well_formed}
use Rattle.model.specs.Calls.{Call}
use Rattle.model.specs.History.{Reached}
use Rattle.model_theorems.proofs.Reach.{reached_by}
use Rattle.hci.specs.declared.HciEvent.{HciEvent}
use Rattle.hci.specs.Read.{event_in}
use Rattle.completed_packets.specs.Format.{Pair}
use Rattle.completed_packets.specs.Read.{completed_in}
use Rattle.att_pdu.specs.Format.{Message}
use Rattle.att_pdu.specs.Read.{message_in}
use Rattle.messages.specs.Received.{Received, refused_with, run_all, only_reply, counts_reply, att_reply, event_calls, pair_calls, att_calls, received_as, received, received_att_as, received_att}
use Rattle.message_theorems.specs.Reach.{calls_as, calls_of, att_calls_as, att_calls_of, RunOf}

run_all_lem : (reply : List Outcome → Reply) (cs : List Call) (t : ConnectionManager) (b : Bool) → well_formed t ≡ b
    → RunOf (cond b cs []) t (run_all reply cs t)
run_all_lem reply cs t true e = rw e (refl, refl)
run_all_lem reply cs t false e = rw e (refl, refl)

nothing_run : (t : ConnectionManager) (b : Bool) (r : Received) → RunOf [] t r → RunOf (cond b [] []) t r
nothing_run t true r p = p
nothing_run t false r p = p

pub received_runs : (s : List ℕ) (t : ConnectionManager) → RunOf (calls_of s t) t (received s t)
received_runs s t = go (event_in s) (completed_in s)
  where
    go : (e : Option HciEvent) (ps : Option (List Pair)) → RunOf (cond (well_formed t) (calls_as e ps) []) t (received_as e ps t)
    go (some e) ps = run_all_lem only_reply (event_calls e) t (well_formed t) refl
    go none (some ps) = run_all_lem counts_reply (pair_calls ps) t (well_formed t) refl
    go none none = nothing_run t (well_formed t) (refused_with Refusal.Packet t) (refl, refl)

pub received_att_runs : (h : ℕ) (s : List ℕ) (t : ConnectionManager) → RunOf (att_calls_of h s t) t (received_att h s t)
received_att_runs h s t = go (message_in s)
  where
    go : (m : Option Message) → RunOf (cond (well_formed t) (att_calls_as h m) []) t (received_att_as h m t)
    go none = nothing_run t (well_formed t) (refused_with Refusal.Packet t) (refl, refl)
    go (some m) = run_all_lem (att_reply m) (att_calls h m) t (well_formed t) refl

-- ---- reached tables

pub received_reached : (s : List ℕ) (t : ConnectionManager) → Reached t → Reached (received s t).table
received_reached s t r = reached_by (calls_of s t) t _ (received_runs s t).0 r

pub received_att_reached : (h : ℕ) (s : List ℕ) (t : ConnectionManager) → Reached t → Reached (received_att h s t).table
received_att_reached h s t r = reached_by (att_calls_of h s t) t _ (received_att_runs h s t).0 r
