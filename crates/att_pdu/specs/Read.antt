-- The message that a list of bytes is, if it is one, and the answers. That this is the format's inverse is shown in Laws.
-- Assumes nothing.
use Rattle.std.specs.Prelude.{ℕ, ◌-◌, Bool, cond, ◌&&◌, List, [], ◌∷◌, eqb, leb, length, get_or, drop, Option as Found, None, Some}
use Rattle.std.proofs.Math.Option.{Option, none, some}
use Rattle.model.specs.Answer.{Refusal, Reply, ok, refusal}
use Rattle.limits.specs.declared.Field.TheVariants as field
use Rattle.limits.specs.Limits.{within}
use Rattle.wire.specs.Wire.{u16_at}
use Rattle.att_pdu.specs.declared.AttPdu.{AttPdu}
use Rattle.att_pdu.specs.declared.AttPdu.TheVariants as pdu
use Rattle.att_pdu.specs.declared.AttMessage.{AttMessage}
use Rattle.att_pdu.specs.declared.AttMessage.TheVariants as att
use Rattle.att_pdu.specs.Format.{Message, exchange_mtu_req, exchange_mtu_rsp, handle_value_ind, handle_value_cfm}

-- an opcode and n bytes, and nothing behind them
abbrev pub is_pdu : ℕ → ℕ → List ℕ → Bool
is_pdu opcode n s = eqb (length s) n && eqb (get_or s 0 0) opcode

-- an indication: its opcode, its handle, and a value that is not too long
abbrev pub is_indication : List ℕ → Bool
is_indication s = leb 3 (length s) && (eqb (get_or s 0 0) 0x1D && within field.ValueLen (length s - 3))

abbrev pub message_in : List ℕ → Option Message
message_in s =
    cond (is_pdu 0x02 3 s) (some (exchange_mtu_req (u16_at s 1)))
    (cond (is_pdu 0x03 3 s) (some (exchange_mtu_rsp (u16_at s 1)))
    (cond (is_pdu 0x1E 1 s) (some handle_value_cfm)
    (cond (is_indication s) (some (handle_value_ind (u16_at s 1) (drop 3 s))) none)))

-- ---- the reader: 9, or the opcode and the MTU or attribute handle

abbrev pub pdu_message : AttPdu → Message
pdu_message (pdu.ExchangeMtuReq mtu) = exchange_mtu_req mtu
pdu_message (pdu.ExchangeMtuRsp mtu) = exchange_mtu_rsp mtu
pdu_message pdu.HandleValueCfm = handle_value_cfm

-- the message that an answer stands for, where `rest` is what stands behind the first three bytes
abbrev pub message_of : Found AttMessage → List ℕ → Option Message
message_of None rest = none
message_of (Some (att.Pdu p)) rest = some (pdu_message p)
message_of (Some (att.HandleValueInd handle)) rest = some (handle_value_ind handle rest)

abbrev pub message_values : Message → List ℕ
message_values (exchange_mtu_req mtu) = 0x02 ∷ mtu ∷ []
message_values (exchange_mtu_rsp mtu) = 0x03 ∷ mtu ∷ []
message_values (handle_value_ind handle value) = 0x1D ∷ handle ∷ []
message_values handle_value_cfm = 0x1E ∷ []

abbrev pub message_reply : Option Message → Reply
message_reply none = refusal Refusal.Packet
message_reply (some m) = ok (message_values m)

abbrev pub att_read_reply : Found AttMessage → Reply
att_read_reply None = refusal Refusal.Packet
att_read_reply (Some (att.Pdu p)) = ok (message_values (pdu_message p))
att_read_reply (Some (att.HandleValueInd handle)) = ok (0x1D ∷ handle ∷ [])

-- ---- the value of an indication; none of any other bytes

abbrev pub value_of : Option Message → List ℕ
value_of none = []
value_of (some (exchange_mtu_req mtu)) = []
value_of (some (exchange_mtu_rsp mtu)) = []
value_of (some (handle_value_ind handle value)) = value
value_of (some handle_value_cfm) = []
