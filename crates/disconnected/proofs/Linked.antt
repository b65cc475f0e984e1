-- Where a program has the functions of this crate, and what they call of other crates, it has the code of each public one. Made by
-- tools/routines, for crates/routines. Assumes nothing.
use mathlib.Core.Bool.{true}
use prog.Linked.{Tree, World, Holds, in_world}
use prog.LinkedThreads.{HasT}
use Rattle.disconnected.proofs.TheLink as link
use Rattle.disconnected.proofs.disconnected.Symbol as disconnected
use Rattle.disconnected.proofs.DisconnectedCallSlotCall.rule.Symbol as DisconnectedCallSlotCall-rule
use Rattle.disconnected.proofs.DisconnectedCallSlotCall.absent.Symbol as DisconnectedCallSlotCall-absent
use Rattle.disconnected.proofs.DisconnectedCallSlotCall.at.Symbol as DisconnectedCallSlotCall-at

abbrev pub functions : Tree
functions = link.table

abbrev pub Below : World → Type 0
Below W = link.Below W

pub linked-disconnected : (W : World) → Holds W "disconnected" functions → Below W → HasT (in_world W) true disconnected.code
linked-disconnected W h b = link.linked-disconnected::disconnected W h b

pub linked-DisconnectedCallSlotCall-rule : (W : World) → Holds W "disconnected" functions → Below W → HasT (in_world W) true DisconnectedCallSlotCall-rule.code
linked-DisconnectedCallSlotCall-rule W h b = link.linked-disconnected::DisconnectedCallSlotCall::rule W h b

pub linked-DisconnectedCallSlotCall-absent : (W : World) → Holds W "disconnected" functions → Below W → HasT (in_world W) true DisconnectedCallSlotCall-absent.code
linked-DisconnectedCallSlotCall-absent W h b = link.linked-disconnected::DisconnectedCallSlotCall::absent W h b

pub linked-DisconnectedCallSlotCall-at : (W : World) → Holds W "disconnected" functions → Below W → HasT (in_world W) true DisconnectedCallSlotCall-at.code
linked-DisconnectedCallSlotCall-at W h b = link.linked-disconnected::DisconnectedCallSlotCall::at W h b
