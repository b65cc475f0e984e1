-- Where a program has the functions of this crate, and what they call of other crates, it has the code of each public one. Made by
-- tools/routines, for crates/routines. Assumes nothing.
use mathlib.Core.Bool.{true}
use prog.Linked.{Tree, World, Holds, in_world}
use prog.LinkedThreads.{HasT}
use Rattle.received.proofs.TheLink as link
use Rattle.received.proofs.refused.Symbol as refused
use Rattle.received.proofs.idle.Symbol as idle
use Rattle.received.proofs.one.Symbol as one
use Rattle.received.proofs.ReceivedClone.clone.Symbol as ReceivedClone-clone

abbrev pub functions : Tree
functions = link.table

abbrev pub Below : World → Type 0
Below W = link.Below W

pub linked-refused : (W : World) → Holds W "received" functions → Below W → HasT (in_world W) true refused.code
linked-refused W h b = link.linked-received::refused W h b

pub linked-idle : (W : World) → Holds W "received" functions → Below W → HasT (in_world W) true idle.code
linked-idle W h b = link.linked-received::idle W h b

pub linked-one : (W : World) → Holds W "received" functions → Below W → HasT (in_world W) true one.code
linked-one W h b = link.linked-received::one W h b

pub linked-ReceivedClone-clone : (W : World) → Holds W "received" functions → Below W → HasT (in_world W) true ReceivedClone-clone.code
linked-ReceivedClone-clone W h b = link.linked-received::ReceivedClone::clone W h b
