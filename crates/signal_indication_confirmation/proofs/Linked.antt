-- Where a program has the functions of this crate, and what they call of other crates, it has the code of each public one. Made by
-- tools/routines, for crates/routines. Assumes nothing.
use mathlib.Core.Bool.{true}
use prog.Linked.{Tree, World, Holds, in_world}
use prog.LinkedThreads.{HasT}
use Rattle.signal_indication_confirmation.proofs.TheLink as link
use Rattle.signal_indication_confirmation.proofs.signal_indication_confirmation.Symbol as signal_indication_confirmation
use Rattle.signal_indication_confirmation.proofs.SignalIndicationConfirmationCallSlotCall.rule.Symbol as SignalIndicationConfirmationCallSlotCall-rule
use Rattle.signal_indication_confirmation.proofs.SignalIndicationConfirmationCallSlotCall.absent.Symbol as SignalIndicationConfirmationCallSlotCall-absent
use Rattle.signal_indication_confirmation.proofs.SignalIndicationConfirmationCallSlotCall.at.Symbol as SignalIndicationConfirmationCallSlotCall-at

abbrev pub functions : Tree
functions = link.table

abbrev pub Below : World → Type 0
Below W = link.Below W

pub linked-signal_indication_confirmation : (W : World) → Holds W "signal_indication_confirmation" functions → Below W → HasT (in_world W) true signal_indication_confirmation.code
linked-signal_indication_confirmation W h b = link.linked-signal_indication_confirmation::signal_indication_confirmation W h b

pub linked-SignalIndicationConfirmationCallSlotCall-rule : (W : World) → Holds W "signal_indication_confirmation" functions → Below W → HasT (in_world W) true SignalIndicationConfirmationCallSlotCall-rule.code
linked-SignalIndicationConfirmationCallSlotCall-rule W h b = link.linked-signal_indication_confirmation::SignalIndicationConfirmationCallSlotCall::rule W h b

pub linked-SignalIndicationConfirmationCallSlotCall-absent : (W : World) → Holds W "signal_indication_confirmation" functions → Below W → HasT (in_world W) true SignalIndicationConfirmationCallSlotCall-absent.code
linked-SignalIndicationConfirmationCallSlotCall-absent W h b = link.linked-signal_indication_confirmation::SignalIndicationConfirmationCallSlotCall::absent W h b

pub linked-SignalIndicationConfirmationCallSlotCall-at : (W : World) → Holds W "signal_indication_confirmation" functions → Below W → HasT (in_world W) true SignalIndicationConfirmationCallSlotCall-at.code
linked-SignalIndicationConfirmationCallSlotCall-at W h b = link.linked-signal_indication_confirmation::SignalIndicationConfirmationCallSlotCall::at W h b
