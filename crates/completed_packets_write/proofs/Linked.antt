-- Where a program has the functions of this crate, and what they call of other crates, it has the code of each public one. Made by
-- tools/routines, for crates/routines. Assumes nothing.
use mathlib.Core.Bool.{true}
use prog.Linked.{Tree, World, Holds, in_world}
use prog.LinkedThreads.{HasT}
use Rattle.completed_packets_write.proofs.TheLink as link
use Rattle.completed_packets_write.proofs.write.Symbol as write
use Rattle.completed_packets_write.proofs.write_columns.Symbol as write_columns

abbrev pub functions : Tree
functions = link.table

abbrev pub Below : World → Type 0
Below W = link.Below W

pub linked-write : (W : World) → Holds W "completed_packets_write" functions → Below W → HasT (in_world W) true write.code
linked-write W h b = link.linked-completed_packets_write::write W h b

pub linked-write_columns : (W : World) → Holds W "completed_packets_write" functions → Below W → HasT (in_world W) true write_columns.code
linked-write_columns W h b = link.linked-completed_packets_write::write_columns W h b
