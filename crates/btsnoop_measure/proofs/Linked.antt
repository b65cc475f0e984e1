-- Where a program has the functions of this crate, and what they call of other crates, it has the code of each public one. Made by
-- tools/routines, for crates/routines. Assumes nothing.
use mathlib.Core.Bool.{true}
use prog.Linked.{Tree, World, Holds, in_world}
use prog.LinkedThreads.{HasT}
use Rattle.btsnoop_measure.proofs.TheLink as link
use Rattle.btsnoop_measure.proofs.measure_all.Symbol as measure_all

abbrev pub functions : Tree
functions = link.table

abbrev pub Below : World → Type 0
Below W = link.Below W

pub linked-measure_all : (W : World) → Holds W "btsnoop_measure" functions → Below W → HasT (in_world W) true measure_all.code
linked-measure_all W h b = link.linked-btsnoop_measure::measure_all W h b
