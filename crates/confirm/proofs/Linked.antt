-- Where a program has the functions of this crate, and what they call of other crates, it has the code of each public one. Made by
-- tools/routines, for crates/routines. Assumes nothing.
use mathlib.Core.Bool.{true}
use prog.Linked.{Tree, World, Holds, in_world}
use prog.LinkedThreads.{HasT}
use Rattle.confirm.proofs.TheLink as link
use Rattle.confirm.proofs.confirm.Symbol as confirm
use Rattle.confirm.proofs.ConfirmCallSlotCall.rule.Symbol as ConfirmCallSlotCall-rule
use Rattle.confirm.proofs.ConfirmCallSlotCall.absent.Symbol as ConfirmCallSlotCall-absent
use Rattle.confirm.proofs.ConfirmCallSlotCall.at.Symbol as ConfirmCallSlotCall-at

abbrev pub functions : Tree
functions = link.table

abbrev pub Below : World → Type 0
Below W = link.Below W

pub linked-confirm : (W : World) → Holds W "confirm" functions → Below W → HasT (in_world W) true confirm.code
linked-confirm W h b = link.linked-confirm::confirm W h b

pub linked-ConfirmCallSlotCall-rule : (W : World) → Holds W "confirm" functions → Below W → HasT (in_world W) true ConfirmCallSlotCall-rule.code
linked-ConfirmCallSlotCall-rule W h b = link.linked-confirm::ConfirmCallSlotCall::rule W h b

pub linked-ConfirmCallSlotCall-absent : (W : World) → Holds W "confirm" functions → Below W → HasT (in_world W) true ConfirmCallSlotCall-absent.code
linked-ConfirmCallSlotCall-absent W h b = link.linked-confirm::ConfirmCallSlotCall::absent W h b

pub linked-ConfirmCallSlotCall-at : (W : World) → Holds W "confirm" functions → Below W → HasT (in_world W) true ConfirmCallSlotCall-at.code
linked-ConfirmCallSlotCall-at W h b = link.linked-confirm::ConfirmCallSlotCall::at W h b
