-- The starred cases of document 01 ("Towers tried") that are table steps, each row with its sentence; one shuffle; and every
-- other row. `rows_hold` checks these, for edits of the definitions; the one check over every starred case, the messages' too, is
-- in crates/all_rows. Assumes nothing.
use Rattle.std.specs.Prelude.{ℕ, ◌≡◌, refl, true, List, [], ◌∷◌, ◌++◌}
use Rattle.state.specs.declared.DisconnectReason.TheVariants as reason
use Rattle.event_queue.specs.declared.ConnectionEvent.TheVariants as event
use Rattle.slot.specs.declared.Woken.TheVariants.{Nobody, Peripheral, Disconnect, LinkCredit, Link}
use Rattle.turn.specs.Turn.{waits, with_wait, lowest_waiting}
use Rattle.model.specs.Find.{slot_at, slots_ok, held_by, well_formed, lowest, locate, lost_of}
use Rattle.model.specs.Link.{Op, dec_ref, confirm, disconnected, post_handle_event, next, poll_acquire_acl_send_lock, unlock_acl_send, poll_request_to_send, grant_end, exchange_att_mtu, get_att_mtu_handle, negotiate_att_mtu, get_stored_att_mtu}
use Rattle.model.specs.Calls.{Call, on_link, poll_disconnecting_call, set_link_credits_call, grant_confirm}
use Rattle.table_rows.specs.Row.{gives, shows, Row, fresh, refused, shuffled, all_hold}
use Rattle.table_rows.specs.Shared.{connect_to, accept, opened, quiet, data_length, params_of, counts, state0}
use Rattle.table_rows.specs.Others.{others}
use Rattle.table_rows.specs.Tables.{handed_in, searches}
use Rattle.table_rows.specs.Lost.{lost_by_link}
use Rattle.table_rows.specs.Withdrawn.{withdrawn}
use Rattle.table_rows.specs.Mtu.{mtu_rows}
use Rattle.table_rows.specs.Life.{lives}
use Rattle.table_rows.specs.Pool.{pool_rows}

-- ---- the starred cases

abbrev starred : List Row
starred =
    -- MTU 4 and 65,539: defaults 0 and 65,535; 3 and 65,540: 8.
    fresh 1 4 4 (shows (λ t. t.default_att_mtu ∷ []) (0 ∷ []) ∷ [])
    ∷ fresh 1 65539 4 (shows (λ t. t.default_att_mtu ∷ []) (65535 ∷ []) ∷ [])
    ∷ refused 1 3 4 8
    ∷ refused 1 65540 4 8
    -- One slot, a second connect: 2.
    ∷ fresh 1 251 4 (gives (connect_to 64 1) 0 [] Peripheral ∷ gives (connect_to 65 2) 2 [] Nobody ∷ [])
    -- Accepted slot, disconnected, connect: taken only after the drop.
    ∷ fresh 1 251 4
    (opened
    (gives (on_link (disconnected 0x13) 64) 0 [] (Link 0)
    ∷ gives (connect_to 65 2) 2 [] Nobody
    ∷ quiet dec_ref 0
    ∷ gives (connect_to 65 2) 0 [] Peripheral
    ∷ []))
    -- Accepted slot, drop: request 0x13. Another drop: 6.
    ∷ fresh 1 251 4
    (opened
    (gives (on_link dec_ref 0) 0 [] Disconnect
    ∷ gives poll_disconnecting_call 0 (0 ∷ 64 ∷ 0x13 ∷ 1 ∷ []) Nobody
    ∷ gives (on_link dec_ref 0) 6 [] Nobody
    ∷ shows state0 (1 ∷ 0x13 ∷ [])
    ∷ []))
    -- MTU 251 (default 247), exchange 185 while Connecting: 185, yet the look-up gives 247.
    ∷ fresh 1 251 4
    (gives (connect_to 64 1) 0 [] Peripheral
    ∷ gives (on_link (exchange_att_mtu 185) 64) 0 (185 ∷ []) Nobody
    ∷ gives (on_link get_att_mtu_handle 64) 0 (247 ∷ []) Nobody
    ∷ [])
    -- Its companion in 02: the new look-up answers 185 after the new exchange while Connecting too.
    ∷ fresh 1 251 4
    (gives (connect_to 64 1) 0 [] Peripheral
    ∷ gives (on_link (negotiate_att_mtu 185) 64) 0 (185 ∷ []) Nobody
    ∷ gives (on_link get_stored_att_mtu 64) 0 (185 ∷ []) Nobody
    ∷ gives (on_link get_att_mtu_handle 64) 0 (247 ∷ []) Nobody
    ∷ [])
    -- Exchange 0 on a live link: 23; on none: 0.
    ∷ fresh 1 251 4
    (gives (connect_to 64 1) 0 [] Peripheral
    ∷ gives (on_link (exchange_att_mtu 0) 64) 0 (23 ∷ []) Nobody
    ∷ gives (on_link (exchange_att_mtu 0) 65) 0 (0 ∷ []) Nobody
    ∷ [])
    -- Four events, then new parameters: 4, parameters changed.
    ∷ fresh 1 251 4
    (opened
    (quiet data_length 64
    ∷ quiet data_length 64
    ∷ quiet data_length 64
    ∷ quiet data_length 64
    ∷ gives (on_link (post_handle_event (event.ConnectionParamsUpdated 3 7500 100000)) 64) 4 [] Nobody
    ∷ shows (params_of 0) (7500 ∷ 3 ∷ 100000 ∷ [])
    ∷ shows counts (1 ∷ 4 ∷ 0 ∷ 1 ∷ [])
    ∷ []))
    -- Credits 3: ask 4: 5. Ask 3, confirm 1, end: 2.
    ∷ fresh 1 251 4
    (gives (set_link_credits_call 3) 0 [] Nobody
    ∷ gives (connect_to 64 1) 0 [] Peripheral
    ∷ gives (on_link (poll_request_to_send 0 1 4) 64) 5 [] Nobody
    ∷ shows counts (0 ∷ 0 ∷ 1 ∷ 0 ∷ [])
    ∷ gives (on_link (poll_request_to_send 0 1 3) 64) 0 (64 ∷ 3 ∷ 0 ∷ 1 ∷ []) Nobody
    ∷ gives (grant_confirm (record { handle = 64; packets = 3; index = 0; life = 1 }) 1) 0 (64 ∷ 2 ∷ 0 ∷ 1 ∷ []) Nobody
    ∷ gives (on_link (grant_end 64 1 2) 0) 0 [] (LinkCredit 0)
    ∷ shows (λ t. (slot_at t 0).link_credits ∷ []) (2 ∷ [])
    ∷ [])
    ∷ []

-- ---- a shuffle: two open links, calls of both that are accepted and refused, run alone, shuffled and in both orders

abbrev pub two_links : List Call
two_links = set_link_credits_call 3 ∷ connect_to 64 1 ∷ accept ∷ connect_to 65 2 ∷ accept ∷ []

abbrev pub shuffle : List (ℕ × Op)
shuffle =
    (0, poll_acquire_acl_send_lock)
    ∷ (1, data_length)
    ∷ (1, poll_acquire_acl_send_lock)
    ∷ (0, poll_acquire_acl_send_lock)
    ∷ (1, disconnected 0x13)
    ∷ (0, poll_request_to_send 0 1 2)
    ∷ (1, poll_request_to_send 0 1 2)
    ∷ (1, next)
    ∷ (0, dec_ref)
    ∷ (1, exchange_att_mtu 30)
    ∷ (0, exchange_att_mtu 30)
    ∷ (0, dec_ref)
    -- stale ends, with the other link's handle and with their own; and one that is not
    ∷ (0, unlock_acl_send 65 0)
    ∷ (1, grant_end 64 2 1)
    ∷ (1, confirm 65 0 reason.AuthenticationFailure)
    ∷ (0, confirm 65 1 reason.AuthenticationFailure)
    ∷ []

abbrev given : List (List ℕ)
given =
    (0 ∷ 64 ∷ 0 ∷ 1 ∷ [])
    ∷ (0 ∷ [])
    ∷ (0 ∷ 65 ∷ 1 ∷ 1 ∷ [])
    ∷ (5 ∷ [])
    ∷ (0 ∷ [])
    ∷ (0 ∷ 64 ∷ 2 ∷ 0 ∷ 1 ∷ [])
    ∷ (3 ∷ [])
    ∷ (0 ∷ 4 ∷ 1 ∷ 2 ∷ 3 ∷ 4 ∷ [])
    ∷ (0 ∷ [])
    ∷ (0 ∷ 30 ∷ [])
    ∷ (0 ∷ 30 ∷ [])
    ∷ (6 ∷ [])
    ∷ (0 ∷ 1 ∷ [])
    ∷ (0 ∷ 1 ∷ [])
    ∷ (0 ∷ 1 ∷ [])
    ∷ (0 ∷ [])
    ∷ []

-- ---- all of them, and the check

abbrev pub rows : List Row
rows = starred ++ others ++ handed_in ++ searches ++ lost_by_link ++ withdrawn ++ mtu_rows ++ lives ++ pool_rows ++ shuffled 2 251 4 two_links shuffle given ((0 ∷ 1 ∷ []) ∷ (1 ∷ 0 ∷ []) ∷ []) ∷ []

pub rows_hold : all_hold rows ≡ true
unfolding locate well_formed slots_ok held_by lowest lost_of waits with_wait lowest_waiting
rows_hold = refl
