-- Where a program has the functions of this crate, and what they call of other crates, it has the code of each public one. Made by
-- tools/routines, for crates/routines. Assumes nothing.
use mathlib.Core.Bool.{true}
use prog.Linked.{Tree, World, Holds, in_world}
use prog.LinkedThreads.{HasT}
use Rattle.att_pdu.proofs.TheLink as link
use Rattle.att_pdu.proofs.read.Symbol as read
use Rattle.att_pdu.proofs.indication_value.Symbol as indication_value

abbrev pub functions : Tree
functions = link.table

abbrev pub Below : World → Type 0
Below W = link.Below W

pub linked-read : (W : World) → Holds W "att_pdu" functions → Below W → HasT (in_world W) true read.code
linked-read W h b = link.linked-att_pdu::read W h b

pub linked-indication_value : (W : World) → Holds W "att_pdu" functions → Below W → HasT (in_world W) true indication_value.code
linked-indication_value W h b = link.linked-att_pdu::indication_value W h b
