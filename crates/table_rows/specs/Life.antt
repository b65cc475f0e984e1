-- Rows for lives: late ends of locks, grants and tickets, and the last life. Assumes nothing.
use Rattle.std.specs.Prelude.{ℕ, List, [], ◌∷◌, ◌++◌}
use Rattle.state.specs.declared.DisconnectReason.TheVariants as reason
use Rattle.state.specs.declared.ConnectionState.{ConnectionState}
use Rattle.state.specs.declared.ConnectionState.TheVariants as state
use Rattle.slot.specs.declared.ConnectionStorage.{ConnectionStorage}
use Rattle.slot.specs.declared.ConnectionManager.{ConnectionManager}
use Rattle.slot.specs.Fresh.{fresh_slot}
use Rattle.slot.specs.Set.{set_life, set_lost}
use Rattle.slot.specs.declared.Woken.{Woken}
use Rattle.slot.specs.declared.Woken.TheVariants.{Nobody, Peripheral, Disconnect, LinkCredit, AclSendLock, Link}
use Rattle.model.specs.Find.{slot_at}
use Rattle.model.specs.Link.{Op, bit, dec_ref, request_disconnect, withdraw_disconnect, confirm, disconnected, poll_acquire_acl_send_lock, unlock_acl_send, poll_request_to_send, grant_end}
use Rattle.model.specs.Calls.{on_link, poll_disconnecting_call, set_link_credits_call}
use Rattle.table_rows.specs.Row.{Item, gives, shows, Row, fresh, from, state_values}
use Rattle.table_rows.specs.Shared.{connect_to, opened, quiet, counts}
use Rattle.table_rows.specs.Tables.{two_slots, laden, load}

-- an end that says Stale
abbrev late : Op → ℕ → Item
late op i = gives (on_link op i) 0 (1 ∷ []) Nobody

-- of a slot: its life, lock and credits, and its state
abbrev shown : ℕ → ConnectionManager → List ℕ
shown i t =
    (slot_at t i).life ∷ bit (slot_at t i).acl_send_locked ∷ (slot_at t i).link_credits ∷ state_values (slot_at t i).state

-- and all else that a call on a link could change
abbrev whole : ℕ → ConnectionManager → List ℕ
whole i t =
    (slot_at t i).handle
    ∷ (slot_at t i).blocked_sends
    ∷ (slot_at t i).lost
    ∷ bit (slot_at t i).indication_in_flight
    ∷ bit (slot_at t i).indication_cfm_received
    ∷ (slot_at t i).events.len
    ∷ (slot_at t i).att_mtu
    ∷ (slot_at t i).refcount
    ∷ shown i t

-- what it shows of a laden slot in its second life, before the lock
abbrev rest : List ℕ → List ℕ
rest vs = 64 ∷ 7 ∷ 0 ∷ 1 ∷ 1 ∷ 2 ∷ 30 ∷ 1 ∷ 2 ∷ vs

-- handle 64, the lock held and 5 credits, in its second life
abbrev aged : ConnectionState → ConnectionStorage
aged s = set_life (laden s 1) 2

-- every end at slot 1, which is in this state; slot 0, live and with the same handle, is never touched. Of another life: Stale,
-- also with nothing left, and of a life that is not yet. Then its own, with another handle: whom the unlocking and the grant
-- wake, the lock and the credits after them, and the state after the ticket, whose reason is 0x1A.
abbrev ends : ConnectionState → Woken → Woken → ℕ → ℕ → List ℕ → Row
ends s unlocks grants lock credits closing =
    from (two_slots (aged state.Connected) (aged s))
    (late (unlock_acl_send 64 1) 1
    ∷ late (unlock_acl_send 64 3) 1
    ∷ late (grant_end 64 1 2) 1
    ∷ late (grant_end 64 3 2) 1
    ∷ late (grant_end 64 1 0) 1
    ∷ late (confirm 64 1 reason.UnsupportedRemoteFeature) 1
    ∷ late (confirm 64 3 reason.UnsupportedRemoteFeature) 1
    ∷ shows (whole 1) (rest (1 ∷ 5 ∷ state_values s))
    ∷ gives (on_link (unlock_acl_send 65 2) 1) 0 [] unlocks
    ∷ quiet (grant_end 65 2 0) 1
    ∷ gives (on_link (grant_end 65 2 2) 1) 0 [] grants
    ∷ shows (whole 1) (rest (lock ∷ credits ∷ state_values s))
    ∷ quiet (confirm 65 2 reason.UnsupportedRemoteFeature) 1
    ∷ shows (whole 1) (rest (lock ∷ credits ∷ closing))
    ∷ shows (whole 0) (rest (1 ∷ 5 ∷ 4 ∷ []))
    ∷ [])

abbrev pub lives : List Row
lives =
    ends state.Connecting (AclSendLock 1) (LinkCredit 1) 0 7 (3 ∷ [])
    ∷ ends state.Connected (AclSendLock 1) (LinkCredit 1) 0 7 (4 ∷ [])
    ∷ ends (state.DisconnectRequest reason.AuthenticationFailure) Nobody Nobody 1 5 (2 ∷ 0x1A ∷ [])
    ∷ ends (state.Disconnecting reason.AuthenticationFailure) Nobody Nobody 1 5 (2 ∷ 5 ∷ [])
    ∷ ends state.Disconnected Nobody Nobody 1 5 (0 ∷ [])
    -- "A motor drops off and comes back under the same handle": in its old slot, the first life 1
    ∷ fresh 1 251 4
    (gives (set_link_credits_call 3) 0 [] Nobody
    ∷ shows (shown 0) (0 ∷ 0 ∷ 3 ∷ 0 ∷ [])
    ∷ opened
    (gives (on_link poll_acquire_acl_send_lock 64) 0 (64 ∷ 0 ∷ 1 ∷ []) Nobody
    ∷ gives (on_link (poll_request_to_send 0 1 2) 64) 0 (64 ∷ 2 ∷ 0 ∷ 1 ∷ []) Nobody
    ∷ gives (on_link (request_disconnect reason.AuthenticationFailure) 0) 0 [] Disconnect
    ∷ gives poll_disconnecting_call 0 (0 ∷ 64 ∷ 5 ∷ 1 ∷ []) Nobody
    ∷ gives (on_link (disconnected 8) 64) 0 [] (Link 0)
    -- closed and not taken: the same life, and nothing
    ∷ quiet (unlock_acl_send 64 1) 0
    ∷ quiet (grant_end 64 1 2) 0
    ∷ quiet (confirm 64 1 reason.AuthenticationFailure) 0
    ∷ shows (shown 0) (1 ∷ 0 ∷ 1 ∷ 0 ∷ [])
    ∷ quiet dec_ref 0
    ∷ opened
    (gives (on_link poll_acquire_acl_send_lock 64) 0 (64 ∷ 0 ∷ 2 ∷ []) Nobody
    ∷ gives (on_link (poll_request_to_send 0 1 0) 64) 0 (64 ∷ 0 ∷ 0 ∷ 2 ∷ []) Nobody
    ∷ gives (on_link (request_disconnect reason.UnsupportedRemoteFeature) 0) 0 [] Disconnect
    ∷ late (unlock_acl_send 64 1) 0
    ∷ late (grant_end 64 1 2) 0
    ∷ late (confirm 64 1 reason.AuthenticationFailure) 0
    ∷ gives poll_disconnecting_call 0 (0 ∷ 64 ∷ 0x1A ∷ 2 ∷ []) Nobody
    -- its own, while it requests: nothing; called off, they are good again
    ∷ quiet (unlock_acl_send 64 2) 0
    ∷ shows (shown 0) (2 ∷ 1 ∷ 3 ∷ 1 ∷ 0x1A ∷ [])
    ∷ quiet withdraw_disconnect 0
    ∷ gives (on_link (unlock_acl_send 64 2) 0) 0 [] (AclSendLock 0)
    ∷ shows (shown 0) (2 ∷ 0 ∷ 3 ∷ 4 ∷ [])
    ∷ [])))
    -- it comes back in another slot, since the old one still has a reference: the late end does nothing, and the new lock stays
    ∷ fresh 2 251 4
    (opened
    (gives (on_link poll_acquire_acl_send_lock 64) 0 (64 ∷ 0 ∷ 1 ∷ []) Nobody
    ∷ gives (on_link (disconnected 8) 64) 0 [] (Link 0)
    ∷ gives (connect_to 64 1) 0 [] Peripheral
    ∷ gives (on_link poll_acquire_acl_send_lock 64) 0 (64 ∷ 1 ∷ 1 ∷ []) Nobody
    -- the old lock still draws a grant, by its handle: on the new link
    ∷ gives (on_link (poll_request_to_send 0 1 0) 64) 0 (64 ∷ 0 ∷ 1 ∷ 1 ∷ []) Nobody
    ∷ quiet (unlock_acl_send 64 1) 0
    ∷ late (unlock_acl_send 64 2) 0
    ∷ shows (λ t. shown 0 t ++ shown 1 t) (1 ∷ 0 ∷ 0 ∷ 0 ∷ 1 ∷ 1 ∷ 0 ∷ 3 ∷ [])
    ∷ []))
    -- the last life: 15, without a look at the next slot, and nothing is changed; the life before it is given
    ∷ from (two_slots (set_lost (set_life (laden state.Disconnected 0) 4294967295) 6) fresh_slot)
    (gives (connect_to 65 1) 15 [] Nobody
    ∷ shows load (7 ∷ 1 ∷ 1 ∷ 2 ∷ 30 ∷ 1 ∷ 5 ∷ 0 ∷ [])
    ∷ shows counts (6 ∷ 2 ∷ 7 ∷ 0 ∷ [])
    ∷ shows (λ t. (slot_at t 0).handle ∷ shown 0 t ++ shown 1 t) (64 ∷ 4294967295 ∷ 1 ∷ 5 ∷ 0 ∷ 0 ∷ 0 ∷ 0 ∷ 0 ∷ [])
    ∷ [])
    ∷ from (two_slots (set_life fresh_slot 4294967294) fresh_slot)
    (opened
    (shows (shown 0) (4294967295 ∷ 0 ∷ 0 ∷ 4 ∷ [])
    -- what is handed out carries it
    ∷ gives (on_link poll_acquire_acl_send_lock 64) 0 (64 ∷ 0 ∷ 4294967295 ∷ []) Nobody
    ∷ gives (on_link (poll_request_to_send 1 7 0) 64) 0 (64 ∷ 0 ∷ 0 ∷ 4294967295 ∷ []) Nobody
    ∷ gives (on_link (unlock_acl_send 64 4294967295) 0) 0 [] (AclSendLock 0)
    ∷ gives (on_link (request_disconnect reason.AuthenticationFailure) 0) 0 [] Disconnect
    ∷ gives poll_disconnecting_call 0 (0 ∷ 64 ∷ 5 ∷ 4294967295 ∷ []) Nobody
    ∷ []))
    -- a slot at its last life that is not free is not chosen
    ∷ from (two_slots (set_life (laden state.Disconnected 1) 4294967295) fresh_slot)
    (gives (connect_to 64 1) 0 [] Peripheral ∷ shows (shown 1) (1 ∷ 0 ∷ 0 ∷ 3 ∷ []) ∷ gives (connect_to 65 1) 2 [] Nobody ∷ [])
    ∷ []
