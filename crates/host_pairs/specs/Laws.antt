-- The run of the pairs is that of their calls. Assumes nothing.
use Rattle.std.specs.Prelude.{ℕ, ◌+◌, ◌≤◌, ◌≡◌, cond, List, [], ◌∷◌, length, drop, None, Some}
use Rattle.std.proofs.Common.{sym, ap, ◌∙◌, add-zero, zero-add, add_assoc, arith, drop_of_length-le}
use Rattle.std.proofs.Math.Option.{Option, none}
use Rattle.slot.specs.declared.ConnectionManager.{ConnectionManager}
use Rattle.model.specs.Answer.{Refusal, Outcome, ok}
use Rattle.model.specs.Calls.{run}
use Rattle.model.specs.History.{after, outcomes}
use Rattle.model.proofs.Laws.{at_most}
use Rattle.completed_packets.specs.Format.{Pair, masked_pairs}
use Rattle.completed_packets.specs.Read.{raw_pairs, completed_in}
use Rattle.completed_packets.specs.Answer.{completed_reply, count_reply}
use Rattle.completed_packets.specs.Laws.{length_pairs, read_none, read_pairs}
use Rattle.messages.specs.Received.{Received, refused_with, received_as, ran_all, run_all, counts_reply, count_of, is_applied, is_skipped, woken_by, pair_call, pair_calls}
use Rattle.host_event.specs.declared.Completed.{Completed}
use Rattle.host_pairs.specs.declared.PairsRun.{PairsRun}
use Rattle.woken_set.specs.declared.WokenSet.{WokenSet}
use Rattle.woken_set.specs.WokenSet.{added}
use Rattle.host_pairs.specs.Pairs.{started, counting, confirming, confirmed_pair, confirmed_pairs}

-- ---- one pair

-- from what `confirm_sent`, the counts and the set ensure
pub confirmed : (r : PairsRun) (p : Pair) {o : Outcome} {c : Completed} {s : WokenSet} → o ≡ run (pair_call p) r.table
    → c ≡ counting r.completed o.reply → s ≡ added r.woken o.woken
    → ◌≡◌ {A = PairsRun} (record { completed = c; woken = s; table = o.table }) (confirmed_pair r p)
unfolding confirmed_pair
confirmed r p {o} e f g = rw (f, g) (ap (confirming r) e)

pub counts_next : (r : PairsRun) (p : Pair)
    → ((confirmed_pair r p).completed.applied ≤ r.completed.applied + 1)
    × ((confirmed_pair r p).completed.skipped ≤ r.completed.skipped + 1)
unfolding confirmed_pair
counts_next r p = (
  omega (arith, at_most 1 (is_applied (run (pair_call p) r.table).reply)),
  omega (arith, at_most 1 (is_skipped (run (pair_call p) r.table).reply)),
)

-- ---- a turn of the loop

pub pairs_next : (ps : List Pair) (i : ℕ) (r : PairsRun) (p : Pair) → drop i ps ≡ p ∷ drop (i + 1) ps
    → confirmed_pairs r (drop i ps) ≡ confirmed_pairs (confirmed_pair r p) (drop (i + 1) ps)
unfolding confirmed_pairs
pairs_next ps i r p e = rw e

pub pairs_end : (ps : List Pair) (i : ℕ) (r : PairsRun) → length ps ≤ i → confirmed_pairs r (drop i ps) ≡ r
unfolding confirmed_pairs
pairs_end ps i r h = rw (drop_of_length-le ps h)

-- ---- all of them

-- r, and these outcomes and this table behind it
abbrev pub behind : PairsRun → List Outcome → ConnectionManager → PairsRun
behind r os t =
    record {
      completed = record {
        applied = r.completed.applied + count_of is_applied os;
        skipped = r.completed.skipped + count_of is_skipped os;
      };
      woken = woken_by os r.woken;
      table = t;
    }

behind_next : (r : PairsRun) (o : Outcome) (os : List Outcome) (t : ConnectionManager)
    → behind (confirming r o) os t ≡ behind r (o ∷ os) t
behind_next r o os t k =
    record {
      completed = record {
        applied = add_assoc r.completed.applied (cond (is_applied o.reply) 1 0) (count_of is_applied os) k;
        skipped = add_assoc r.completed.skipped (cond (is_skipped o.reply) 1 0) (count_of is_skipped os) k;
      };
      woken = woken_by os (added r.woken o.woken);
      table = t;
    }

pub ran : (ps : List Pair) (r : PairsRun) → confirmed_pairs r ps ≡ behind r (outcomes (pair_calls ps) r.table) (after (pair_calls ps) r.table)
unfolding confirmed_pairs confirmed_pair
ran [] r =
    λ k.
    record {
      completed = record { applied = sym (add-zero r.completed.applied) k; skipped = sym (add-zero r.completed.skipped) k };
      woken = r.woken;
      table = r.table;
    }
ran (p ∷ ps) r =
    let o = run (pair_call p) r.table in
    ran ps (confirming r o) ∙ behind_next r o (outcomes (pair_calls ps) o.table) (after (pair_calls ps) o.table)

-- the run as a message's outcome
abbrev pub as_received : PairsRun → Received
as_received r = record { reply = ok (r.completed.applied ∷ r.completed.skipped ∷ []); woken = r.woken; table = r.table }

pub ran_all_lem : (ps : List Pair) (t : ConnectionManager) {r : PairsRun} → r ≡ confirmed_pairs (started t) ps
    → as_received r ≡ ran_all counts_reply (pair_calls ps) t
ran_all_lem ps t e =
    ap as_received (e ∙ ran ps (started t))
    ∙ rw (zero-add (count_of is_applied (outcomes (pair_calls ps) t)), zero-add (count_of is_skipped (outcomes (pair_calls ps) t)))

-- ---- the pairs of an event that was read

-- from what the reader and the run ensure
pub pairs_run : (s : List ℕ) (n : ℕ) (t : ConnectionManager) {x : Received} → completed_reply (Some n) ≡ count_reply (completed_in s)
    → x ≡ run_all counts_reply (pair_calls (masked_pairs (raw_pairs s n 3))) t → x ≡ received_as none (completed_in s) t
pairs_run s n t e f =
    let k = read_pairs s n e in
    f
    ∙ ap (λ (m : ℕ). run_all counts_reply (pair_calls (masked_pairs (raw_pairs s m 3))) t) (sym k.1 ∙ length_pairs s)
    ∙ ap (λ (o : Option (List Pair)). received_as none o t) (sym k.0)

pub no_pairs : (s : List ℕ) (t : ConnectionManager) {x : Received} → completed_reply None ≡ count_reply (completed_in s)
    → x ≡ refused_with Refusal.Packet t → x ≡ received_as none (completed_in s) t
no_pairs s t e f = f ∙ ap (λ (o : Option (List Pair)). received_as none o t) (sym (read_none s e))
