-- Where a program has the functions of this crate, and what they call of other crates, it has the code of each public one. Made by
-- tools/routines, for crates/routines. Assumes nothing.
use mathlib.Core.Bool.{true}
use prog.Linked.{Tree, World, Holds, in_world}
use prog.LinkedThreads.{HasT}
use Rattle.poll_disconnecting.proofs.TheLink as link
use Rattle.poll_disconnecting.proofs.poll_disconnecting.Symbol as poll_disconnecting
use Rattle.poll_disconnecting.proofs.PollDisconnectingCallSlotCall.rule.Symbol as PollDisconnectingCallSlotCall-rule
use Rattle.poll_disconnecting.proofs.PollDisconnectingCallSlotCall.absent.Symbol as PollDisconnectingCallSlotCall-absent
use Rattle.poll_disconnecting.proofs.PollDisconnectingCallSlotCall.at.Symbol as PollDisconnectingCallSlotCall-at

abbrev pub functions : Tree
functions = link.table

abbrev pub Below : World → Type 0
Below W = link.Below W

pub linked-poll_disconnecting : (W : World) → Holds W "poll_disconnecting" functions → Below W → HasT (in_world W) true poll_disconnecting.code
linked-poll_disconnecting W h b = link.linked-poll_disconnecting::poll_disconnecting W h b

pub linked-PollDisconnectingCallSlotCall-rule : (W : World) → Holds W "poll_disconnecting" functions → Below W → HasT (in_world W) true PollDisconnectingCallSlotCall-rule.code
linked-PollDisconnectingCallSlotCall-rule W h b = link.linked-poll_disconnecting::PollDisconnectingCallSlotCall::rule W h b

pub linked-PollDisconnectingCallSlotCall-absent : (W : World) → Holds W "poll_disconnecting" functions → Below W → HasT (in_world W) true PollDisconnectingCallSlotCall-absent.code
linked-PollDisconnectingCallSlotCall-absent W h b = link.linked-poll_disconnecting::PollDisconnectingCallSlotCall::absent W h b

pub linked-PollDisconnectingCallSlotCall-at : (W : World) → Holds W "poll_disconnecting" functions → Below W → HasT (in_world W) true PollDisconnectingCallSlotCall-at.code
linked-PollDisconnectingCallSlotCall-at W h b = link.linked-poll_disconnecting::PollDisconnectingCallSlotCall::at W h b
