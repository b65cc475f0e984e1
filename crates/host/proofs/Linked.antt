-- Where a program has the functions of this crate, and what they call of other crates, it has the code of each public one. Made by
-- tools/routines, for crates/routines. Assumes nothing.
use mathlib.Core.Bool.{true}
use prog.Linked.{Tree, World, Holds, in_world}
use prog.LinkedThreads.{HasT}
use Rattle.host.proofs.TheLink as link
use Rattle.host.proofs.received.Symbol as received

abbrev pub functions : Tree
functions = link.table

abbrev pub Below : World → Type 0
Below W = link.Below W

pub linked-received : (W : World) → Holds W "host" functions → Below W → HasT (in_world W) true received.code
linked-received W h b = link.linked-host::received W h b
