-- Where a program has the functions of this crate, and what they call of other crates, it has the code of each public one. Made by
-- tools/routines, for crates/routines. Assumes nothing.
use mathlib.Core.Bool.{true}
use prog.Linked.{Tree, World, Holds, in_world}
use prog.LinkedThreads.{HasT}
use Rattle.btsnoop_write.proofs.TheLink as link
use Rattle.btsnoop_write.proofs.is_read.Symbol as is_read
use Rattle.btsnoop_write.proofs.write.Symbol as write
use Rattle.btsnoop_write.proofs.write_columns.Symbol as write_columns

abbrev pub functions : Tree
functions = link.table

abbrev pub Below : World → Type 0
Below W = link.Below W

pub linked-is_read : (W : World) → Holds W "btsnoop_write" functions → Below W → HasT (in_world W) true is_read.code
linked-is_read W h b = link.linked-btsnoop_write::is_read W h b

pub linked-write : (W : World) → Holds W "btsnoop_write" functions → Below W → HasT (in_world W) true write.code
linked-write W h b = link.linked-btsnoop_write::write W h b

pub linked-write_columns : (W : World) → Holds W "btsnoop_write" functions → Below W → HasT (in_world W) true write_columns.code
linked-write_columns W h b = link.linked-btsnoop_write::write_columns W h b
