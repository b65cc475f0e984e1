-- Where a program has the functions of this crate, and what they call of other crates, it has the code of each public one. Made by
-- tools/routines, for crates/routines. Assumes nothing.
use mathlib.Core.Bool.{true}
use prog.Linked.{Tree, World, Holds, in_world}
use prog.LinkedThreads.{HasT}
use Rattle.slot_text.proofs.TheLink as link
use Rattle.slot_text.proofs.put_slot.Symbol as put_slot

abbrev pub functions : Tree
functions = link.table

abbrev pub Below : World → Type 0
Below W = link.Below W

pub linked-put_slot : (W : World) → Holds W "slot_text" functions → Below W → HasT (in_world W) true put_slot.code
linked-put_slot W h b = link.linked-slot_text::put_slot W h b
