-- The bytes of each message, and which values are of the form: Core Specification, Vol 3 Part F, 3.4. Assumes nothing.
use Rattle.std.specs.Prelude.{ℕ, Bool, true, List, [], ◌∷◌, ◌++◌, length}
use Rattle.limits.specs.declared.Field.TheVariants as field
use Rattle.limits.specs.Limits.{within}
use Rattle.wire.specs.Wire.{le16}

pub data Message : Type 0 where
  exchange_mtu_req : (mtu : ℕ) → Message
  exchange_mtu_rsp : (mtu : ℕ) → Message
  handle_value_ind : (handle : ℕ) (value : List ℕ) → Message
  handle_value_cfm : Message

-- 3.4.2.1, 3.4.2.2, 3.4.7.2, 3.4.7.3
abbrev pub message_bytes : Message → List ℕ
message_bytes (exchange_mtu_req mtu) = 0x02 ∷ le16 mtu
message_bytes (exchange_mtu_rsp mtu) = 0x03 ∷ le16 mtu
message_bytes (handle_value_ind handle value) = 0x1D ∷ (le16 handle ++ value)
message_bytes handle_value_cfm = 0x1E ∷ []

-- a value has 0 to 512 bytes, so that an indication has "3 to 515 bytes in all"; MTU and attribute handle are any 16 bits
abbrev pub message_of_form : Message → Bool
message_of_form (exchange_mtu_req mtu) = true
message_of_form (exchange_mtu_rsp mtu) = true
message_of_form (handle_value_ind handle value) = within field.ValueLen (length value)
message_of_form handle_value_cfm = true
