-- Where a program has the functions of this crate, and what they call of other crates, it has the code of each public one. Made by
-- tools/routines, for crates/routines. Assumes nothing.
use mathlib.Core.Bool.{true}
use prog.Linked.{Tree, World, Holds, in_world}
use prog.LinkedThreads.{HasT}
use Rattle.from_columns.proofs.TheLink as link
use Rattle.from_columns.proofs.from_columns.Symbol as from_columns

abbrev pub functions : Tree
functions = link.table

abbrev pub Below : World → Type 0
Below W = link.Below W

pub linked-from_columns : (W : World) → Holds W "from_columns" functions → Below W → HasT (in_world W) true from_columns.code
linked-from_columns W h b = link.linked-from_columns::from_columns W h b
