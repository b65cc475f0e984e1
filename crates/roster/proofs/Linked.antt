-- Where a program has the functions of this crate, and what they call of other crates, it has the code of each public one. Made by
-- tools/routines, for crates/routines. Assumes nothing.
use mathlib.Core.Bool.{true}
use prog.Linked.{Tree, World, Holds, in_world}
use prog.LinkedThreads.{HasT}
use Rattle.roster.proofs.TheLink as link
use Rattle.roster.proofs.roster.Symbol as roster

abbrev pub functions : Tree
functions = link.table

abbrev pub Below : World → Type 0
Below W = link.Below W

pub linked-roster : (W : World) → Holds W "roster" functions → Below W → HasT (in_world W) true roster.code
linked-roster W h b = link.linked-roster::roster W h b
