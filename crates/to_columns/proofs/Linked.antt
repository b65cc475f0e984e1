-- Where a program has the functions of this crate, and what they call of other crates, it has the code of each public one. Made by
-- tools/routines, for crates/routines. Assumes nothing.
use mathlib.Core.Bool.{true}
use prog.Linked.{Tree, World, Holds, in_world}
use prog.LinkedThreads.{HasT}
use Rattle.to_columns.proofs.TheLink as link
use Rattle.to_columns.proofs.to_columns.Symbol as to_columns

abbrev pub functions : Tree
functions = link.table

abbrev pub Below : World → Type 0
Below W = link.Below W

pub linked-to_columns : (W : World) → Holds W "to_columns" functions → Below W → HasT (in_world W) true to_columns.code
linked-to_columns W h b = link.linked-to_columns::to_columns W h b
