-- A run of pairs, pair by pair: what the loop goes by. Assumes nothing.
use Rattle.std.specs.Prelude.{◌+◌, cond, List, [], ◌∷◌}
use Rattle.slot.specs.declared.ConnectionManager.{ConnectionManager}
use Rattle.model.specs.Answer.{Reply, Outcome}
use Rattle.model.specs.Calls.{run}
use Rattle.woken_set.specs.WokenSet.{nobody, added}
use Rattle.completed_packets.specs.Format.{Pair}
use Rattle.messages.specs.Received.{is_applied, is_skipped, pair_call}
use Rattle.host_event.specs.declared.Completed.{Completed}
use Rattle.host_pairs.specs.declared.PairsRun.{PairsRun}

abbrev pub started : ConnectionManager → PairsRun
started t = record { completed = record { applied = 0; skipped = 0 }; woken = nobody; table = t }

abbrev pub counting : Completed → Reply → Completed
counting c r = record { applied = c.applied + cond (is_applied r) 1 0; skipped = c.skipped + cond (is_skipped r) 1 0 }

abbrev pub confirming : PairsRun → Outcome → PairsRun
confirming r o = record { completed = counting r.completed o.reply; woken = added r.woken o.woken; table = o.table }

unfoldable pub confirmed_pair : PairsRun → Pair → PairsRun
confirmed_pair r p = confirming r (run (pair_call p) r.table)

unfoldable pub confirmed_pairs : PairsRun → List Pair → PairsRun
confirmed_pairs r [] = r
confirmed_pairs r (p ∷ ps) = confirmed_pairs (confirmed_pair r p) ps
