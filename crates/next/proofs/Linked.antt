-- Where a program has the functions of this crate, and what they call of other crates, it has the code of each public one. Made by
-- tools/routines, for crates/routines. Assumes nothing.
use mathlib.Core.Bool.{true}
use prog.Linked.{Tree, World, Holds, in_world}
use prog.LinkedThreads.{HasT}
use Rattle.next.proofs.TheLink as link
use Rattle.next.proofs.next.Symbol as next
use Rattle.next.proofs.NextCallSlotCall.rule.Symbol as NextCallSlotCall-rule
use Rattle.next.proofs.NextCallSlotCall.absent.Symbol as NextCallSlotCall-absent
use Rattle.next.proofs.NextCallSlotCall.at.Symbol as NextCallSlotCall-at

abbrev pub functions : Tree
functions = link.table

abbrev pub Below : World → Type 0
Below W = link.Below W

pub linked-next : (W : World) → Holds W "next" functions → Below W → HasT (in_world W) true next.code
linked-next W h b = link.linked-next::next W h b

pub linked-NextCallSlotCall-rule : (W : World) → Holds W "next" functions → Below W → HasT (in_world W) true NextCallSlotCall-rule.code
linked-NextCallSlotCall-rule W h b = link.linked-next::NextCallSlotCall::rule W h b

pub linked-NextCallSlotCall-absent : (W : World) → Holds W "next" functions → Below W → HasT (in_world W) true NextCallSlotCall-absent.code
linked-NextCallSlotCall-absent W h b = link.linked-next::NextCallSlotCall::absent W h b

pub linked-NextCallSlotCall-at : (W : World) → Holds W "next" functions → Below W → HasT (in_world W) true NextCallSlotCall-at.code
linked-NextCallSlotCall-at W h b = link.linked-next::NextCallSlotCall::at W h b
