-- Where a program has the functions of this crate, and what they call of other crates, it has the code of each public one. Made by
-- tools/routines, for crates/routines. Assumes nothing.
use mathlib.Core.Bool.{true}
use prog.Linked.{Tree, World, Holds, in_world}
use prog.LinkedThreads.{HasT}
use Rattle.limits.proofs.TheLink as link
use Rattle.limits.proofs.within.Symbol as within

abbrev pub functions : Tree
functions = link.table

abbrev pub Below : World → Type 0
Below W = link.Below W

pub linked-within : (W : World) → Holds W "limits" functions → Below W → HasT (in_world W) true within.code
linked-within W h b = link.linked-limits::within W h b
