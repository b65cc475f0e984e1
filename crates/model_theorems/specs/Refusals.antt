-- What a refused call leaves behind: document 01's table "What a call gives back", for every call and every table, well
-- formed or not. This file is the statement, `Refusals`. It is proved in proofs/Left.antt. Assumes nothing.
use Rattle.std.specs.Prelude.{ℕ, ◌<◌, ◌≡◌, ◌≢◌, ◌⊎◌, Bool, true, false}
use Rattle.event_queue.specs.declared.ConnectionEvent.{ConnectionEvent}
use Rattle.slot.specs.declared.ConnectionManager.{ConnectionManager}
use Rattle.slot.specs.declared.Located.TheVariants.{At}
use Rattle.pool.specs.Pool.{joined}
use Rattle.model.specs.Find.{slot_at, locate, by_live, fits}
use Rattle.model.specs.Link.{Op, get_connected_handle, inc_ref, dec_ref, request_disconnect, request_handle_disconnect, withdraw_disconnect, confirm, disconnected, post_handle_event, next, poll_acquire_acl_send_lock, unlock_acl_send, poll_request_to_send, grant_end, confirm_sent, has_link_credits, exchange_att_mtu, get_att_mtu_handle, negotiate_att_mtu, get_stored_att_mtu, acquire_indication_slot, release_indication_slot, signal_indication_confirmation, wait_indication_confirmation, way_of, stored, one_lost, blocked}
use Rattle.model.specs.Calls.{Call, on_link, poll_request_from_pool_call, run, put, put_with}

-- "a lock or grant"
abbrev pub sends : Op → Bool
sends get_connected_handle = false
sends inc_ref = false
sends dec_ref = false
sends (request_disconnect r) = false
sends (request_handle_disconnect r) = false
sends withdraw_disconnect = false
sends (confirm h v r) = false
sends (disconnected v) = false
sends (post_handle_event e) = false
sends next = false
sends poll_acquire_acl_send_lock = true
sends (unlock_acl_send h v) = false
sends (poll_request_to_send j v n) = true
sends (grant_end h v n) = false
sends (confirm_sent n) = false
sends (has_link_credits n) = false
sends (exchange_att_mtu m) = false
sends get_att_mtu_handle = false
sends (negotiate_att_mtu m) = false
sends get_stored_att_mtu = false
sends acquire_indication_slot = false
sends release_indication_slot = false
sends signal_indication_confirmation = false
sends wait_indication_confirmation = false

-- the number of a call's answer, and the table that it leaves
module _ (c : Call) (t : ConnectionManager) (number : ℕ) (left : ConnectionManager) where
  -- 4: "a posted event meets a full queue": "parameters and subrating as if posted; lost count +1", the slot's own
  abbrev pub LeftBy4 : Type 0
  LeftBy4 =
      (e : ConnectionEvent) × (h : ℕ) × (i : ℕ)
      × (c ≡ on_link (post_handle_event e) h)
      × (locate (fits (way_of (post_handle_event e)) h) t ≡ At i)
      × (left ≡ put t i (one_lost (stored e (slot_at t i))))

  -- 5: blocked_sends +1 for a lock or grant
  abbrev pub LeftByBlocked : Type 0
  LeftByBlocked =
      (op : Op) × (h : ℕ) × (i : ℕ)
      × (c ≡ on_link op h)
      × (sends op ≡ true)
      × (locate (fits (way_of op) h) t ≡ At i)
      × (left ≡ put t i (blocked (slot_at t i)))

  -- 5 from an ask of the pool, above 0: blocked_sends +1, and the slot is among the waiting ("01's row 5 gains the wait")
  abbrev pub LeftByWait : Type 0
  LeftByWait =
      (h : ℕ) × (k : ℕ) × (i : ℕ)
      × (c ≡ poll_request_from_pool_call h k)
      × (0 < k)
      × (locate (fits by_live h) t ≡ At i)
      × (left ≡ put_with t i (blocked (slot_at t i)) (joined i t.pool))

  -- 5: "unchanged" for every other call
  abbrev pub LeftByPending : Type 0
  LeftByPending =
      ((op : Op) (h : ℕ) → c ≡ on_link op h → sends op ≡ false)
      × ((h k : ℕ) → c ≢ poll_request_from_pool_call h k)
      × (left ≡ t)

  pub record LeftBehind : Type 0 where
    pub unchanged : number ≢ 0 → number ≢ 4 → number ≢ 5 → left ≡ t
    pub out_of_memory : number ≡ 4 → LeftBy4
    pub pending : number ≡ 5 → LeftByBlocked ⊎ (LeftByWait ⊎ LeftByPending)

unfoldable pub Refusals : Type 0
Refusals = (c : Call) (t : ConnectionManager) → LeftBehind c t (run c t).reply.number (run c t).table
