-- Where a program has the functions of this crate, and what they call of other crates, it has the code of each public one. Made by
-- tools/routines, for crates/routines. Assumes nothing.
use mathlib.Core.Bool.{true}
use prog.Linked.{Tree, World, Holds, in_world}
use prog.LinkedThreads.{HasT}
use Rattle.total_lost.proofs.TheLink as link
use Rattle.total_lost.proofs.total_lost_in.Symbol as total_lost_in
use Rattle.total_lost.proofs.total_lost.Symbol as total_lost

abbrev pub functions : Tree
functions = link.table

abbrev pub Below : World → Type 0
Below W = link.Below W

pub linked-total_lost_in : (W : World) → Holds W "total_lost" functions → Below W → HasT (in_world W) true total_lost_in.code
linked-total_lost_in W h b = link.linked-total_lost::total_lost_in W h b

pub linked-total_lost : (W : World) → Holds W "total_lost" functions → Below W → HasT (in_world W) true total_lost.code
linked-total_lost W h b = link.linked-total_lost::total_lost W h b
