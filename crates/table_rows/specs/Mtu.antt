-- Rows for the exchange by the specification and its look-up. Assumes nothing.
use Rattle.std.specs.Prelude.{ℕ, List, [], ◌∷◌}
use Rattle.state.specs.declared.DisconnectReason.TheVariants as reason
use Rattle.slot.specs.declared.ConnectionManager.{ConnectionManager}
use Rattle.slot.specs.declared.Woken.TheVariants.{Nobody, Disconnect}
use Rattle.model.specs.Find.{slot_at}
use Rattle.model.specs.Link.{request_disconnect, exchange_att_mtu, negotiate_att_mtu, get_stored_att_mtu}
use Rattle.model.specs.Calls.{on_link}
use Rattle.table_rows.specs.Row.{gives, shows, Row, fresh}
use Rattle.table_rows.specs.Shared.{opened}

abbrev mtu0 : ConnectionManager → List ℕ
mtu0 t = (slot_at t 0).att_mtu ∷ []

abbrev pub mtu_rows : List Row
mtu_rows =
    -- an offer under 23 gives 23, which is stored; of two that are not, the lower; none stored: 23
    fresh 1 251 4
    (gives (on_link (negotiate_att_mtu 185) 64) 0 (23 ∷ []) Nobody
    ∷ gives (on_link get_stored_att_mtu 64) 0 (23 ∷ []) Nobody
    ∷ opened
    (gives (on_link get_stored_att_mtu 64) 0 (23 ∷ []) Nobody
    ∷ gives (on_link (negotiate_att_mtu 5) 64) 0 (23 ∷ []) Nobody
    ∷ shows mtu0 (23 ∷ [])
    ∷ gives (on_link (negotiate_att_mtu 24) 64) 0 (24 ∷ []) Nobody
    ∷ gives (on_link (negotiate_att_mtu 22) 64) 0 (23 ∷ []) Nobody
    ∷ gives (on_link (negotiate_att_mtu 0) 64) 0 (23 ∷ []) Nobody
    ∷ shows mtu0 (23 ∷ [])
    ∷ gives (on_link (negotiate_att_mtu 500) 64) 0 (247 ∷ []) Nobody
    ∷ gives (on_link get_stored_att_mtu 64) 0 (247 ∷ []) Nobody
    -- the old exchange still stores 5, and the new look-up shows it
    ∷ gives (on_link (exchange_att_mtu 5) 64) 0 (5 ∷ []) Nobody
    ∷ gives (on_link get_stored_att_mtu 64) 0 (5 ∷ []) Nobody
    -- a link that is not live: 23, and nothing is stored
    ∷ gives (on_link (request_disconnect reason.AuthenticationFailure) 0) 0 [] Disconnect
    ∷ gives (on_link (negotiate_att_mtu 185) 64) 0 (23 ∷ []) Nobody
    ∷ gives (on_link get_stored_att_mtu 64) 0 (23 ∷ []) Nobody
    ∷ shows mtu0 (5 ∷ [])
    ∷ []))
    -- our own offer under 23, and at 23
    ∷ fresh 1 26 4 (opened (gives (on_link (negotiate_att_mtu 100) 64) 0 (23 ∷ []) Nobody ∷ shows mtu0 (23 ∷ []) ∷ []))
    ∷ fresh 1 27 4 (opened (gives (on_link (negotiate_att_mtu 100) 64) 0 (23 ∷ []) Nobody ∷ shows mtu0 (23 ∷ []) ∷ []))
    ∷ fresh 1 28 4 (opened (gives (on_link (negotiate_att_mtu 100) 64) 0 (24 ∷ []) Nobody ∷ shows mtu0 (24 ∷ []) ∷ []))
    ∷ []
