-- Where a program has the functions of this crate, and what they call of other crates, it has the code of each public one. Made by
-- tools/routines, for crates/routines. Assumes nothing.
use mathlib.Core.Bool.{true}
use prog.Linked.{Tree, World, Holds, in_world}
use prog.LinkedThreads.{HasT}
use Rattle.hci_read.proofs.TheLink as link
use Rattle.hci_read.proofs.read.Symbol as read

abbrev pub functions : Tree
functions = link.table

abbrev pub Below : World → Type 0
Below W = link.Below W

pub linked-read : (W : World) → Holds W "hci_read" functions → Below W → HasT (in_world W) true read.code
linked-read W h b = link.linked-hci_read::read W h b
