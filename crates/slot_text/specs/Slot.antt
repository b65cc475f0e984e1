-- The text of a slot, field by field, as the table of docs/HISTORY.md has it. Assumes nothing.
use Rattle.std.specs.Prelude.{ℕ, Option, None, Some, cond, List, [], ◌∷◌, ◌++◌, eqb}
use Rattle.state.specs.declared.ConnectionState.{ConnectionState}
use Rattle.state.specs.declared.ConnectionState.TheVariants as state
use Rattle.slot.specs.declared.LeConnRole.{LeConnRole}
pub use Rattle.slot.specs.Role.{role_value}
use Rattle.slot.specs.declared.Address.{Address}
use Rattle.slot.specs.declared.SubratingParams.{SubratingParams}
use Rattle.slot.specs.declared.ConnectionStorage.{ConnectionStorage}
use Rattle.model.specs.Answer.{reason_value}
use Rattle.text.specs.Text.{hex_text}
use Rattle.text.specs.Ascii.{ascii}
use Rattle.number_text.specs.Number.{behind_text, numbers_text, bit_of}
use Rattle.event_text.specs.Event.{queue_text}

-- fields have one space between
abbrev space : ℕ
space = 32

-- the letter, and the reason in hexadecimal
unfoldable pub state_text : ConnectionState → List ℕ
state_text state.Disconnected = ascii "D"
state_text (state.DisconnectRequest r) = ascii "R" ++ hex_text (reason_value r ∷ [])
state_text (state.Disconnecting r) = ascii "G" ++ hex_text (reason_value r ∷ [])
state_text state.Connecting = ascii "C"
state_text state.Connected = ascii "O"

-- kind, then ADDRESS: most significant byte first, which is the last on the wire
abbrev pub address_text : Address → List ℕ
address_text p =
    behind_text space p.kind
    ++ (ascii " "
    ++ hex_text (p.addr.5 ∷ p.addr.4 ∷ p.addr.3 ∷ p.addr.2 ∷ p.addr.1 ∷ p.addr.0 ∷ []))

-- handle, life, role; peer; parameters
abbrev pub peer_text : ConnectionStorage → List ℕ
peer_text s =
    numbers_text space (s.handle ∷ s.life ∷ role_value s.role ∷ [])
    ++ (address_text s.peer_identity
    ++ numbers_text space
    (s.params.conn_interval ∷ s.params.peripheral_latency ∷ s.params.supervision_timeout ∷ []))

-- `FACTOR,CONTINUATION`, or `-` for none
unfoldable pub subrating_text : Option SubratingParams → List ℕ
subrating_text None = ascii " -"
subrating_text (Some p) = behind_text space p.subrate_factor ++ behind_text 44 p.continuation_number

-- 0 stands for none
abbrev pub mtu_text : ℕ → List ℕ
mtu_text m = cond (eqb m 0) (ascii " -") (behind_text space m)

-- credits, lock flag, references, `blocked_sends`, lost count, packets held, in-flight flag, confirmed flag
abbrev pub counts_text : ConnectionStorage → List ℕ
counts_text s =
    numbers_text space
    (s.link_credits
    ∷ bit_of s.acl_send_locked
    ∷ s.refcount
    ∷ s.blocked_sends
    ∷ s.lost
    ∷ s.pool_held
    ∷ bit_of s.indication_in_flight
    ∷ bit_of s.indication_cfm_received
    ∷ [])

unfoldable pub slot_text : ConnectionStorage → List ℕ
slot_text s =
    state_text s.state
    ++ (peer_text s
    ++ (subrating_text s.subrating_params
    ++ (mtu_text s.att_mtu ++ (counts_text s ++ (ascii " " ++ queue_text s.events)))))
