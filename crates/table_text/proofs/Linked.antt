-- Where a program has the functions of this crate, and what they call of other crates, it has the code of each public one. Made by
-- tools/routines, for crates/routines. Assumes nothing.
use mathlib.Core.Bool.{true}
use prog.Linked.{Tree, World, Holds, in_world}
use prog.LinkedThreads.{HasT}
use Rattle.table_text.proofs.TheLink as link
use Rattle.table_text.proofs.put_table.Symbol as put_table

abbrev pub functions : Tree
functions = link.table

abbrev pub Below : World → Type 0
Below W = link.Below W

pub linked-put_table : (W : World) → Holds W "table_text" functions → Below W → HasT (in_world W) true put_table.code
linked-put_table W h b = link.linked-table_text::put_table W h b
