-- Where a program has the functions of this crate, and what they call of other crates, it has the code of each public one. Made by
-- tools/routines, for crates/routines. Assumes nothing.
use mathlib.Core.Bool.{true}
use prog.Linked.{Tree, World, Holds, in_world}
use prog.LinkedThreads.{HasT}
use Rattle.acquire_indication_slot.proofs.TheLink as link
use Rattle.acquire_indication_slot.proofs.acquire_indication_slot.Symbol as acquire_indication_slot
use Rattle.acquire_indication_slot.proofs.AcquireIndicationSlotCallSlotCall.rule.Symbol as AcquireIndicationSlotCallSlotCall-rule
use Rattle.acquire_indication_slot.proofs.AcquireIndicationSlotCallSlotCall.absent.Symbol as AcquireIndicationSlotCallSlotCall-absent
use Rattle.acquire_indication_slot.proofs.AcquireIndicationSlotCallSlotCall.at.Symbol as AcquireIndicationSlotCallSlotCall-at

abbrev pub functions : Tree
functions = link.table

abbrev pub Below : World → Type 0
Below W = link.Below W

pub linked-acquire_indication_slot : (W : World) → Holds W "acquire_indication_slot" functions → Below W → HasT (in_world W) true acquire_indication_slot.code
linked-acquire_indication_slot W h b = link.linked-acquire_indication_slot::acquire_indication_slot W h b

pub linked-AcquireIndicationSlotCallSlotCall-rule : (W : World) → Holds W "acquire_indication_slot" functions → Below W → HasT (in_world W) true AcquireIndicationSlotCallSlotCall-rule.code
linked-AcquireIndicationSlotCallSlotCall-rule W h b = link.linked-acquire_indication_slot::AcquireIndicationSlotCallSlotCall::rule W h b

pub linked-AcquireIndicationSlotCallSlotCall-absent : (W : World) → Holds W "acquire_indication_slot" functions → Below W → HasT (in_world W) true AcquireIndicationSlotCallSlotCall-absent.code
linked-AcquireIndicationSlotCallSlotCall-absent W h b = link.linked-acquire_indication_slot::AcquireIndicationSlotCallSlotCall::absent W h b

pub linked-AcquireIndicationSlotCallSlotCall-at : (W : World) → Holds W "acquire_indication_slot" functions → Below W → HasT (in_world W) true AcquireIndicationSlotCallSlotCall-at.code
linked-AcquireIndicationSlotCallSlotCall-at W h b = link.linked-acquire_indication_slot::AcquireIndicationSlotCallSlotCall::at W h b
