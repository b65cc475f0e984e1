-- Cases of `MessagesLeavePool`: in every table, two pairs, a Disconnection Complete of handle 0x40 with another status
-- than 0, an LE Connection Complete, an LE Connection Update Complete, and a confirmation. Assumes nothing.
use Rattle.std.specs.Prelude.{ℕ, ◌≡◌, refl, List, [], ◌∷◌}
use Rattle.turn.specs.Turn.{waits, with_wait, lowest_waiting}
use Rattle.slot.specs.declared.ConnectionManager.{ConnectionManager}
use Rattle.model.specs.Find.{slot_at, slots_ok, held_by, well_formed, lowest, locate}
use Rattle.model.specs.Calls.{poll_request_from_pool_call}
use Rattle.model.specs.History.{after}
use Rattle.limits.specs.Limits.{within}
use Rattle.hci.specs.Read.{event_in}
use Rattle.completed_packets.specs.Format.{handles_fit}
use Rattle.completed_packets.specs.Read.{raw_pairs, completed_in}
use Rattle.att_pdu.specs.Read.{message_in}
use Rattle.messages.specs.Received.{received, received_att}
use Rattle.message_theorems.proofs.Credits.{one, pairs}
use Rattle.message_theorems.specs.Pool.{MessagesLeavePool}
use Rattle.message_theorems.proofs.Pool.{messages_leave_pool}

pub pairs_leave : (t : ConnectionManager) → (received pairs t).table.pool ≡ t.pool
unfolding MessagesLeavePool within raw_pairs handles_fit
pairs_leave t = (messages_leave_pool.0 (event_in pairs) (completed_in pairs) t refl).0

pub pairs_leave_slots : (t : ConnectionManager) (i : ℕ) → (slot_at (received pairs t).table i).pool_held ≡ (slot_at t i).pool_held
unfolding MessagesLeavePool within raw_pairs handles_fit
pairs_leave_slots t i = (messages_leave_pool.0 (event_in pairs) (completed_in pairs) t refl).1 i

abbrev closed_with : ℕ → List ℕ
closed_with status = 0x05 ∷ 0x04 ∷ status ∷ 0x40 ∷ 0x00 ∷ 0x13 ∷ []

pub failure_leaves : (t : ConnectionManager) → (received (closed_with 0x0C) t).table.pool ≡ t.pool
unfolding MessagesLeavePool within
failure_leaves t = (messages_leave_pool.0 (event_in (closed_with 0x0C)) (completed_in (closed_with 0x0C)) t refl).0

abbrev opened : List ℕ
opened =
    0x3E ∷ 0x13 ∷ 0x01 ∷ 0x00 ∷ 0x41 ∷ 0x00 ∷ 0x01 ∷ 0x00 ∷ 0x01 ∷ 0x02 ∷ 0x03 ∷ 0x04 ∷ 0x05 ∷ 0x06 ∷ 0x18 ∷ 0x00 ∷ 0x00 ∷ 0x00
    ∷ 0xC8 ∷ 0x00 ∷ 0x00 ∷ []

pub opening_leaves : (t : ConnectionManager) → (received opened t).table.pool ≡ t.pool
unfolding MessagesLeavePool within
opening_leaves t = (messages_leave_pool.0 (event_in opened) (completed_in opened) t refl).0

abbrev updated : List ℕ
updated = 0x3E ∷ 0x0A ∷ 0x03 ∷ 0x00 ∷ 0x40 ∷ 0x00 ∷ 0x06 ∷ 0x00 ∷ 0x01 ∷ 0x00 ∷ 0x64 ∷ 0x00 ∷ []

pub update_leaves : (t : ConnectionManager) → (received updated t).table.pool ≡ t.pool
unfolding MessagesLeavePool within
update_leaves t = (messages_leave_pool.0 (event_in updated) (completed_in updated) t refl).0

pub confirmation_leaves : (t : ConnectionManager) → (received_att 0x40 (0x1E ∷ []) t).table.pool ≡ t.pool
unfolding MessagesLeavePool within
confirmation_leaves t = (messages_leave_pool.1 0x40 (message_in (0x1E ∷ [])) t).0

-- the link of Credits.antt, with handle 0x40, draws 2 of the pool's 4 packets and waits for 3 more: the pairs are its credits, and
-- when it closes the packets are back and the wait is over
abbrev drawn : ConnectionManager
drawn = after (poll_request_from_pool_call 0x40 2 ∷ poll_request_from_pool_call 0x40 3 ∷ []) one

pub in_use : drawn.pool ≡ record { packets = 4; free = 2; waiting = 1; turn = 1 }
unfolding locate well_formed slots_ok held_by lowest waits with_wait lowest_waiting
in_use = refl

pub credited : (slot_at (received pairs drawn).table 0).link_credits ≡ 5
unfolding locate well_formed slots_ok held_by lowest waits with_wait lowest_waiting within raw_pairs handles_fit
credited = refl

pub closed : (received (closed_with 0x00) drawn).table.pool ≡ record { packets = 4; free = 4; waiting = 0; turn = 1 }
unfolding locate well_formed slots_ok held_by lowest waits with_wait lowest_waiting within
closed = refl
