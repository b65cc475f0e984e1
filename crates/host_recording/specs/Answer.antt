-- The number and values of each answer. Assumes nothing.
use Rattle.std.specs.Prelude.{Bool, true, false, cond, Result, Ok, Err}
use Rattle.slot.specs.declared.ConnectionManager.{ConnectionManager}
use Rattle.model.specs.Answer.{Refusal, Reply, number_of, refusal}
use Rattle.messages.specs.Received.{Received}
use Rattle.recordings.specs.declared.ReplayCounts.{ReplayCounts}
use Rattle.recordings.specs.Recording.{Running, count_values}
use Rattle.host_recording.specs.declared.Replay.{Replay}
use Rattle.host_recording.specs.declared.ReplayOutcome.{ReplayOutcome}
use Rattle.host_recording.specs.declared.ReplayError.{ReplayError}
use Rattle.host_recording.specs.declared.ReplayError.TheVariants as error

abbrev pub counts_reply : Bool → ReplayCounts → Reply
counts_reply whole c = record { number = cond whole 0 (number_of Refusal.Record); values = count_values c }

abbrev pub error_reply : ReplayError → Reply
error_reply error.Setup = refusal Refusal.Setup
error_reply error.Header = refusal Refusal.Header
error_reply (error.Record c) = counts_reply false c

abbrev pub replay_reply : Result ReplayCounts ReplayError → Reply
replay_reply (Ok c) = counts_reply true c
replay_reply (Err e) = error_reply e

abbrev pub replay_outcome : ReplayOutcome → Received
replay_outcome r = record { reply = replay_reply r.answer; woken = r.woken; table = r.table }

-- the answer, and what stands behind the run
abbrev pub ended : Result ReplayCounts ReplayError → Replay → Received
ended a p = record { reply = replay_reply a; woken = p.woken; table = p.table }

-- ---- where the code's run stands

abbrev pub running_of : Replay → Running ConnectionManager
running_of p = record { counts = p.counts; woken = p.woken; table = p.table }

-- .. and whether all records were whole
abbrev pub walked_of : Result Replay Replay → Running ConnectionManager × Bool
walked_of (Ok p) = (running_of p, true)
walked_of (Err p) = (running_of p, false)
