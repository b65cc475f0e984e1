-- Rows for a disconnect request that is called off. Assumes nothing.
use Rattle.std.specs.Prelude.{ℕ, List, [], ◌∷◌}
use Rattle.state.specs.declared.DisconnectReason.TheVariants as reason
use Rattle.state.specs.declared.ConnectionState.{ConnectionState}
use Rattle.state.specs.declared.ConnectionState.TheVariants as state
use Rattle.slot.specs.Fresh.{fresh_slot}
use Rattle.slot.specs.declared.Woken.TheVariants.{Nobody, Disconnect}
use Rattle.model.specs.Link.{inc_ref, dec_ref, request_disconnect, request_handle_disconnect, withdraw_disconnect, confirm}
use Rattle.model.specs.Calls.{on_link, poll_disconnecting_call}
use Rattle.table_rows.specs.Row.{gives, shows, Row, fresh, from}
use Rattle.table_rows.specs.Shared.{opened, quiet, state0}
use Rattle.table_rows.specs.Tables.{two_slots, laden, load}

-- a slot of which nothing is fresh, in this state and with these references: the number answered, and the state shown then; all
-- else is as it was
abbrev withdraws : ConnectionState → ℕ → ℕ → List ℕ → Row
withdraws s refs number shown =
    from (two_slots (laden s refs) fresh_slot)
    (gives (on_link withdraw_disconnect 0) number [] Nobody
    ∷ shows load (7 ∷ 1 ∷ 1 ∷ 2 ∷ 30 ∷ 1 ∷ 5 ∷ refs ∷ [])
    ∷ shows state0 shown
    ∷ [])

abbrev pub withdrawn : List Row
withdrawn =
    -- a request with references; without: 16
    withdraws (state.DisconnectRequest reason.AuthenticationFailure) 3 0 (4 ∷ [])
    ∷ withdraws (state.DisconnectRequest reason.AuthenticationFailure) 0 16 (1 ∷ 5 ∷ [])
    -- in any other state nothing happens, with references or without
    ∷ withdraws state.Disconnected 3 0 (0 ∷ [])
    ∷ withdraws state.Disconnected 0 0 (0 ∷ [])
    ∷ withdraws state.Connecting 3 0 (3 ∷ [])
    ∷ withdraws state.Connecting 0 0 (3 ∷ [])
    ∷ withdraws state.Connected 3 0 (4 ∷ [])
    ∷ withdraws state.Connected 0 0 (4 ∷ [])
    ∷ withdraws (state.Disconnecting reason.AuthenticationFailure) 3 0 (2 ∷ 5 ∷ [])
    ∷ withdraws (state.Disconnecting reason.AuthenticationFailure) 0 0 (2 ∷ 5 ∷ [])
    -- asked and withdrawn
    ∷ fresh 1 251 4
    (opened
    (gives (on_link (request_disconnect reason.AuthenticationFailure) 0) 0 [] Disconnect
    ∷ gives poll_disconnecting_call 0 (0 ∷ 64 ∷ 5 ∷ 1 ∷ []) Nobody
    ∷ quiet withdraw_disconnect 0
    ∷ shows state0 (4 ∷ [])
    ∷ gives poll_disconnecting_call 5 [] Nobody
    -- the ticket of a request that was called off does nothing, and is good again after a second request
    ∷ quiet (confirm 64 1 reason.AuthenticationFailure) 0
    ∷ shows state0 (4 ∷ [])
    ∷ gives (on_link (request_handle_disconnect reason.UnsupportedRemoteFeature) 64) 0 [] Disconnect
    ∷ quiet (confirm 64 1 reason.AuthenticationFailure) 0
    ∷ shows state0 (2 ∷ 5 ∷ [])
    -- too late
    ∷ quiet withdraw_disconnect 0
    ∷ shows state0 (2 ∷ 5 ∷ [])
    ∷ gives (on_link withdraw_disconnect 1) 1 [] Nobody
    ∷ []))
    -- the request that a drop to 0 made: 16, until there is a reference
    ∷ fresh 1 251 4
    (opened
    (gives (on_link dec_ref 0) 0 [] Disconnect
    ∷ gives (on_link withdraw_disconnect 0) 16 [] Nobody
    ∷ shows state0 (1 ∷ 0x13 ∷ [])
    ∷ quiet inc_ref 0
    ∷ quiet withdraw_disconnect 0
    ∷ shows state0 (4 ∷ [])
    ∷ []))
    ∷ []
