-- Where a program has the functions of this crate, and what they call of other crates, it has the code of each public one. Made by
-- tools/routines, for crates/routines. Assumes nothing.
use mathlib.Core.Bool.{true}
use prog.Linked.{Tree, World, Holds, in_world}
use prog.LinkedThreads.{HasT}
use Rattle.confirm_sent.proofs.TheLink as link
use Rattle.confirm_sent.proofs.confirm_sent.Symbol as confirm_sent
use Rattle.confirm_sent.proofs.ConfirmSentCallSlotCall.rule.Symbol as ConfirmSentCallSlotCall-rule
use Rattle.confirm_sent.proofs.ConfirmSentCallSlotCall.absent.Symbol as ConfirmSentCallSlotCall-absent
use Rattle.confirm_sent.proofs.ConfirmSentCallSlotCall.at.Symbol as ConfirmSentCallSlotCall-at

abbrev pub functions : Tree
functions = link.table

abbrev pub Below : World → Type 0
Below W = link.Below W

pub linked-confirm_sent : (W : World) → Holds W "confirm_sent" functions → Below W → HasT (in_world W) true confirm_sent.code
linked-confirm_sent W h b = link.linked-confirm_sent::confirm_sent W h b

pub linked-ConfirmSentCallSlotCall-rule : (W : World) → Holds W "confirm_sent" functions → Below W → HasT (in_world W) true ConfirmSentCallSlotCall-rule.code
linked-ConfirmSentCallSlotCall-rule W h b = link.linked-confirm_sent::ConfirmSentCallSlotCall::rule W h b

pub linked-ConfirmSentCallSlotCall-absent : (W : World) → Holds W "confirm_sent" functions → Below W → HasT (in_world W) true ConfirmSentCallSlotCall-absent.code
linked-ConfirmSentCallSlotCall-absent W h b = link.linked-confirm_sent::ConfirmSentCallSlotCall::absent W h b

pub linked-ConfirmSentCallSlotCall-at : (W : World) → Holds W "confirm_sent" functions → Below W → HasT (in_world W) true ConfirmSentCallSlotCall-at.code
linked-ConfirmSentCallSlotCall-at W h b = link.linked-confirm_sent::ConfirmSentCallSlotCall::at W h b
