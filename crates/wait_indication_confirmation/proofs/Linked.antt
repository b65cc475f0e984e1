-- Where a program has the functions of this crate, and what they call of other crates, it has the code of each public one. Made by
-- tools/routines, for crates/routines. Assumes nothing.
use mathlib.Core.Bool.{true}
use prog.Linked.{Tree, World, Holds, in_world}
use prog.LinkedThreads.{HasT}
use Rattle.wait_indication_confirmation.proofs.TheLink as link
use Rattle.wait_indication_confirmation.proofs.wait_indication_confirmation.Symbol as wait_indication_confirmation
use Rattle.wait_indication_confirmation.proofs.WaitIndicationConfirmationCallSlotCall.rule.Symbol as WaitIndicationConfirmationCallSlotCall-rule
use Rattle.wait_indication_confirmation.proofs.WaitIndicationConfirmationCallSlotCall.absent.Symbol as WaitIndicationConfirmationCallSlotCall-absent
use Rattle.wait_indication_confirmation.proofs.WaitIndicationConfirmationCallSlotCall.at.Symbol as WaitIndicationConfirmationCallSlotCall-at

abbrev pub functions : Tree
functions = link.table

abbrev pub Below : World → Type 0
Below W = link.Below W

pub linked-wait_indication_confirmation : (W : World) → Holds W "wait_indication_confirmation" functions → Below W → HasT (in_world W) true wait_indication_confirmation.code
linked-wait_indication_confirmation W h b = link.linked-wait_indication_confirmation::wait_indication_confirmation W h b

pub linked-WaitIndicationConfirmationCallSlotCall-rule : (W : World) → Holds W "wait_indication_confirmation" functions → Below W → HasT (in_world W) true WaitIndicationConfirmationCallSlotCall-rule.code
linked-WaitIndicationConfirmationCallSlotCall-rule W h b = link.linked-wait_indication_confirmation::WaitIndicationConfirmationCallSlotCall::rule W h b

pub linked-WaitIndicationConfirmationCallSlotCall-absent : (W : World) → Holds W "wait_indication_confirmation" functions → Below W → HasT (in_world W) true WaitIndicationConfirmationCallSlotCall-absent.code
linked-WaitIndicationConfirmationCallSlotCall-absent W h b = link.linked-wait_indication_confirmation::WaitIndicationConfirmationCallSlotCall::absent W h b

pub linked-WaitIndicationConfirmationCallSlotCall-at : (W : World) → Holds W "wait_indication_confirmation" functions → Below W → HasT (in_world W) true WaitIndicationConfirmationCallSlotCall-at.code
linked-WaitIndicationConfirmationCallSlotCall-at W h b = link.linked-wait_indication_confirmation::WaitIndicationConfirmationCallSlotCall::at W h b
