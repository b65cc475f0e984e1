-- "Lost events by link", two statements. `LostByLink`: each slot's lost count is the number of events that met its full queue
-- since the last `connect` of that slot, wrapped, and what `total_lost` answers is the sum of these numbers over the slots,
-- wrapped. `SlotAlone`: "Shuffled lists must still end in equal counts, link by link". They are proved in
-- proofs/Losses.antt and proofs/Order.antt. Assumes nothing.
use Rattle.std.specs.Prelude.{ℕ, zero, suc, ◌+◌, ◌%◌, ◌^◌, ◌<◌, ◌≡◌, Bool, true, false, cond, not, ◌&&◌, List, [], ◌∷◌, leb, eqb}
use Rattle.slot.specs.declared.ConnectionStorage.{ConnectionStorage}
use Rattle.slot.specs.declared.ConnectionManager.{ConnectionManager}
use Rattle.slot.specs.declared.Located.{Located}
use Rattle.slot.specs.declared.Located.TheVariants.{Setup, Absent, At}
use Rattle.model.specs.Answer.{ok, unmoved}
use Rattle.model.specs.Find.{slot_at, locate, fits}
use Rattle.model.specs.Link.{Op, get_connected_handle, inc_ref, dec_ref, request_disconnect, request_handle_disconnect, withdraw_disconnect, confirm, disconnected, post_handle_event, next, poll_acquire_acl_send_lock, unlock_acl_send, poll_request_to_send, grant_end, confirm_sent, has_link_credits, exchange_att_mtu, get_att_mtu_handle, negotiate_att_mtu, get_stored_att_mtu, acquire_indication_slot, release_indication_slot, signal_indication_confirmation, wait_indication_confirmation, way_of}
use Rattle.model.specs.Calls.{Call, on_link, connects, poll_accept_call, get_connection_by_peer_address_call, poll_disconnecting_call, set_link_credits_call, total_lost_call, poll_request_from_pool_call, pool_confirm_sent_call, pool_grant_end_call, grant_confirm, run, is_free, is_last_life}
use Rattle.model.specs.History.{Reached, new}
use Rattle.model.specs.Demand3.{Link, OwnHandles, OnLinks, Trace, Lists, Shuffle, alone, end_table}

-- a call that queues an event: "row 4 and `disconnected`"
abbrev pub queues : Op → Bool
queues get_connected_handle = false
queues inc_ref = false
queues dec_ref = false
queues (request_disconnect r) = false
queues (request_handle_disconnect r) = false
queues withdraw_disconnect = false
queues (confirm h v r) = false
queues (disconnected v) = true
queues (post_handle_event e) = true
queues next = false
queues poll_acquire_acl_send_lock = false
queues (unlock_acl_send h v) = false
queues (poll_request_to_send j v n) = false
queues (grant_end h v n) = false
queues (confirm_sent n) = false
queues (has_link_credits n) = false
queues (exchange_att_mtu m) = false
queues get_att_mtu_handle = false
queues (negotiate_att_mtu m) = false
queues get_stored_att_mtu = false
queues acquire_indication_slot = false
queues release_indication_slot = false
queues signal_indication_confirmation = false
queues wait_indication_confirmation = false

abbrev pub is_full : ConnectionStorage → Bool
is_full s = leb 4 s.events.len

-- the slot that the search found is slot i
abbrev pub is_at : ℕ → Located → Bool
is_at i Setup = false
is_at i Absent = false
is_at i (At j) = eqb i j

-- a call by handle or index that queues an event, on slot i, whose queue is full
abbrev pub loses : Op → ℕ → ConnectionManager → ℕ → Bool
loses op h t i = is_at i (locate (fits (way_of op) h) t) && (queues op && is_full (slot_at t i))

-- a `connect` takes slot i: it is the one chosen, and not at its last life
abbrev pub takes : ConnectionManager → ℕ → Bool
takes t i = is_at i (locate is_free t) && not (is_last_life (slot_at t i))

-- how many events slot i has lost after a call, where it had lost n before; a `connect` that takes the slot begins at 0
abbrev pub lost_after : Call → ConnectionManager → ℕ → ℕ → ℕ
lost_after (on_link op h) t i n = cond (loses op h t i) (n + 1) n
lost_after (connects h a r p) t i n = cond (takes t i) 0 n
lost_after (poll_accept_call r ps) t i n = n
lost_after (get_connection_by_peer_address_call a) t i n = n
lost_after poll_disconnecting_call t i n = n
lost_after (set_link_credits_call c) t i n = n
lost_after total_lost_call t i n = n
lost_after (poll_request_from_pool_call h k) t i n = n
lost_after (pool_confirm_sent_call h k) t i n = n
lost_after (pool_grant_end_call g) t i n = n
lost_after (grant_confirm g sent) t i n = n

-- the same over a history
abbrev pub lost_over : List Call → ConnectionManager → ℕ → ℕ → ℕ
lost_over [] t i n = n
lost_over (c ∷ cs) t i n = lost_over cs (run c t).table i (lost_after c t i n)

-- the events that slot i of a reached table has lost since its last `connect`, from the history that leads there
abbrev pub lost_since : {t : ConnectionManager} → Reached t → ℕ → ℕ
lost_since r i = lost_over r.calls (new r.slots r.packet_mtu r.packets).table i 0

-- f i + f (i + 1) + .., n of them
abbrev pub sum : (ℕ → ℕ) → ℕ → ℕ → ℕ
sum f zero i = 0
sum f (suc n) i = f i + sum f n (i + 1)

unfoldable pub LostByLink : Type 0
LostByLink =
    (t : ConnectionManager) (r : Reached t)
    → ((i : ℕ) → i < t.count → (slot_at t i).lost ≡ lost_since r i % 2 ^ 32)
    × (run total_lost_call t ≡ unmoved (ok (sum (lost_since r) t.count 0 % 2 ^ 32 ∷ [])) t)

-- after every shuffle each link's slot, and its lost count with it, is the one that its list alone leaves. (`Demand3` compares the
-- whole table with that of the lists in turn.)
unfoldable pub SlotAlone : Type 0
SlotAlone =
    (start : ConnectionManager) → Reached start → OwnHandles start
    → (lists : Lists) → OnLinks start lists
    → (trace : Trace) → Shuffle lists trace
    → (i : ℕ) → Link start i → slot_at (end_table start trace) i ≡ slot_at (end_table start (alone lists i)) i
