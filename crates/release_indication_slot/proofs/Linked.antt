-- Where a program has the functions of this crate, and what they call of other crates, it has the code of each public one. Made by
-- tools/routines, for crates/routines. Assumes nothing.
use mathlib.Core.Bool.{true}
use prog.Linked.{Tree, World, Holds, in_world}
use prog.LinkedThreads.{HasT}
use Rattle.release_indication_slot.proofs.TheLink as link
use Rattle.release_indication_slot.proofs.release_indication_slot.Symbol as release_indication_slot
use Rattle.release_indication_slot.proofs.ReleaseIndicationSlotCallSlotCall.rule.Symbol as ReleaseIndicationSlotCallSlotCall-rule
use Rattle.release_indication_slot.proofs.ReleaseIndicationSlotCallSlotCall.absent.Symbol as ReleaseIndicationSlotCallSlotCall-absent
use Rattle.release_indication_slot.proofs.ReleaseIndicationSlotCallSlotCall.at.Symbol as ReleaseIndicationSlotCallSlotCall-at

abbrev pub functions : Tree
functions = link.table

abbrev pub Below : World → Type 0
Below W = link.Below W

pub linked-release_indication_slot : (W : World) → Holds W "release_indication_slot" functions → Below W → HasT (in_world W) true release_indication_slot.code
linked-release_indication_slot W h b = link.linked-release_indication_slot::release_indication_slot W h b

pub linked-ReleaseIndicationSlotCallSlotCall-rule : (W : World) → Holds W "release_indication_slot" functions → Below W → HasT (in_world W) true ReleaseIndicationSlotCallSlotCall-rule.code
linked-ReleaseIndicationSlotCallSlotCall-rule W h b = link.linked-release_indication_slot::ReleaseIndicationSlotCallSlotCall::rule W h b

pub linked-ReleaseIndicationSlotCallSlotCall-absent : (W : World) → Holds W "release_indication_slot" functions → Below W → HasT (in_world W) true ReleaseIndicationSlotCallSlotCall-absent.code
linked-ReleaseIndicationSlotCallSlotCall-absent W h b = link.linked-release_indication_slot::ReleaseIndicationSlotCallSlotCall::absent W h b

pub linked-ReleaseIndicationSlotCallSlotCall-at : (W : World) → Holds W "release_indication_slot" functions → Below W → HasT (in_world W) true ReleaseIndicationSlotCallSlotCall-at.code
linked-ReleaseIndicationSlotCallSlotCall-at W h b = link.linked-release_indication_slot::ReleaseIndicationSlotCallSlotCall::at W h b
