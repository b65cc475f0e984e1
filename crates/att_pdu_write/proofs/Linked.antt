-- Where a program has the functions of this crate, and what they call of other crates, it has the code of each public one. Made by
-- tools/routines, for crates/routines. Assumes nothing.
use mathlib.Core.Bool.{true}
use prog.Linked.{Tree, World, Holds, in_world}
use prog.LinkedThreads.{HasT}
use Rattle.att_pdu_write.proofs.TheLink as link
use Rattle.att_pdu_write.proofs.write.Symbol as write
use Rattle.att_pdu_write.proofs.write_handle_value_ind.Symbol as write_handle_value_ind

abbrev pub functions : Tree
functions = link.table

abbrev pub Below : World → Type 0
Below W = link.Below W

pub linked-write : (W : World) → Holds W "att_pdu_write" functions → Below W → HasT (in_world W) true write.code
linked-write W h b = link.linked-att_pdu_write::write W h b

pub linked-write_handle_value_ind : (W : World) → Holds W "att_pdu_write" functions → Below W → HasT (in_world W) true write_handle_value_ind.code
linked-write_handle_value_ind W h b = link.linked-att_pdu_write::write_handle_value_ind W h b
