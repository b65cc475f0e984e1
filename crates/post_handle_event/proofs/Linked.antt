-- Where a program has the functions of this crate, and what they call of other crates, it has the code of each public one. Made by
-- tools/routines, for crates/routines. Assumes nothing.
use mathlib.Core.Bool.{true}
use prog.Linked.{Tree, World, Holds, in_world}
use prog.LinkedThreads.{HasT}
use Rattle.post_handle_event.proofs.TheLink as link
use Rattle.post_handle_event.proofs.post_handle_event.Symbol as post_handle_event
use Rattle.post_handle_event.proofs.PostHandleEventCallSlotCall.rule.Symbol as PostHandleEventCallSlotCall-rule
use Rattle.post_handle_event.proofs.PostHandleEventCallSlotCall.absent.Symbol as PostHandleEventCallSlotCall-absent
use Rattle.post_handle_event.proofs.PostHandleEventCallSlotCall.at.Symbol as PostHandleEventCallSlotCall-at

abbrev pub functions : Tree
functions = link.table

abbrev pub Below : World → Type 0
Below W = link.Below W

pub linked-post_handle_event : (W : World) → Holds W "post_handle_event" functions → Below W → HasT (in_world W) true post_handle_event.code
linked-post_handle_event W h b = link.linked-post_handle_event::post_handle_event W h b

pub linked-PostHandleEventCallSlotCall-rule : (W : World) → Holds W "post_handle_event" functions → Below W → HasT (in_world W) true PostHandleEventCallSlotCall-rule.code
linked-PostHandleEventCallSlotCall-rule W h b = link.linked-post_handle_event::PostHandleEventCallSlotCall::rule W h b

pub linked-PostHandleEventCallSlotCall-absent : (W : World) → Holds W "post_handle_event" functions → Below W → HasT (in_world W) true PostHandleEventCallSlotCall-absent.code
linked-PostHandleEventCallSlotCall-absent W h b = link.linked-post_handle_event::PostHandleEventCallSlotCall::absent W h b

pub linked-PostHandleEventCallSlotCall-at : (W : World) → Holds W "post_handle_event" functions → Below W → HasT (in_world W) true PostHandleEventCallSlotCall-at.code
linked-PostHandleEventCallSlotCall-at W h b = link.linked-post_handle_event::PostHandleEventCallSlotCall::at W h b
