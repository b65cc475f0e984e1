-- Messages that `MessageRefusals` speaks of: one answered with 4, and one with each of 2, 8 and 9. So neither of its two
-- cases is empty. Assumes nothing.
use Rattle.std.specs.Prelude.{ℕ, ◌≡◌, List, [], ◌∷◌}
use Rattle.std.proofs.Math.Path.{refl}
use Rattle.std.proofs.Common.{arith}
use Rattle.slot.specs.declared.ConnectionManager.{ConnectionManager}
use Rattle.slot.specs.declared.LeConnRole.TheVariants.{Peripheral}
use Rattle.event_queue.specs.declared.ConnectionEvent.TheVariants.{DataLengthUpdated}
use Rattle.model.specs.Find.{slots_ok, held_by, well_formed, lowest, locate}
use Rattle.model.specs.Link.{post_handle_event}
use Rattle.model.specs.Calls.{Call, on_link, connects, poll_accept_call}
use Rattle.model.specs.History.{new, after, no_table}
use Rattle.model_theorems.specs.Refusals.{LeftBy4}
use Rattle.limits.specs.Limits.{within}
use Rattle.hci.specs.Read.{event_in}
use Rattle.completed_packets.specs.Read.{completed_in}
use Rattle.att_pdu.specs.Read.{message_in}
use Rattle.messages.specs.Received.{received, received_att}
use Rattle.message_theorems.specs.Reach.{calls_as}
use Rattle.message_theorems.specs.Refusals.{MessageLeft, MessageRefusals}

-- a link with handle 0x40, accepted, and four events in its queue
abbrev full : ConnectionManager
full = after (opened ∷ poll_accept_call Peripheral [] ∷ posted ∷ posted ∷ posted ∷ posted ∷ []) (new 1 251 4).table
  where
    opened : Call
    opened =
        connects 0x40
        (record { kind = 0; addr = record { 0 = 1; 1 = 2; 2 = 3; 3 = 4; 4 = 5; 5 = 6 } })
        Peripheral
        (record { conn_interval = 30000; peripheral_latency = 0; supervision_timeout = 2000000 })

    posted : Call
    posted = on_link (post_handle_event (DataLengthUpdated 1 2 3 4)) 0x40

-- LE Connection Update Complete of that link; Disconnection Complete of another
abbrev updated : List ℕ
updated = 0x3E ∷ 0x0A ∷ 0x03 ∷ 0x00 ∷ 0x40 ∷ 0x00 ∷ 0x06 ∷ 0x00 ∷ 0x01 ∷ 0x00 ∷ 0x64 ∷ 0x00 ∷ []

abbrev closed : List ℕ
closed = 0x05 ∷ 0x04 ∷ 0x00 ∷ 0x41 ∷ 0x00 ∷ 0x13 ∷ []

module _ (refusals : MessageRefusals) where
  of_event : (s : List ℕ) (t : ConnectionManager) → MessageLeft (calls_as (event_in s) (completed_in s)) t (received s t)
  unfolding MessageRefusals
  of_event s t = refusals.0 (event_in s) (completed_in s) t

  pub four : (c : Call) × (calls_as (event_in updated) (completed_in updated) ≡ c ∷ []) × LeftBy4 c full 4 (received updated full).table
  unfolding locate well_formed slots_ok held_by lowest within
  four = (of_event updated full).out_of_memory refl

  pub two : (received closed full).table ≡ full
  unfolding locate well_formed slots_ok held_by lowest within
  two = (of_event closed full).unchanged (λ e. omega (arith, e)) (λ e. omega (arith, e))

  pub eight : (received closed no_table).table ≡ no_table
  unfolding locate well_formed slots_ok held_by lowest within
  eight = (of_event closed no_table).unchanged (λ e. omega (arith, e)) (λ e. omega (arith, e))

  pub nine : (received_att 0x40 [] full).table ≡ full
  unfolding MessageRefusals within
  nine = (refusals.1 0x40 (message_in []) full).unchanged (λ e. omega (arith, e)) (λ e. omega (arith, e))
