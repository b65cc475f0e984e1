-- Where a program has the functions of this crate, and what they call of other crates, it has the code of each public one. Made by
-- tools/routines, for crates/routines. Assumes nothing.
use mathlib.Core.Bool.{true}
use prog.Linked.{Tree, World, Holds, in_world}
use prog.LinkedThreads.{HasT}
use Rattle.poll_request_to_send.proofs.TheLink as link
use Rattle.poll_request_to_send.proofs.poll_request_to_send.Symbol as poll_request_to_send
use Rattle.poll_request_to_send.proofs.PollRequestToSendCallSlotCall.rule.Symbol as PollRequestToSendCallSlotCall-rule
use Rattle.poll_request_to_send.proofs.PollRequestToSendCallSlotCall.absent.Symbol as PollRequestToSendCallSlotCall-absent
use Rattle.poll_request_to_send.proofs.PollRequestToSendCallSlotCall.at.Symbol as PollRequestToSendCallSlotCall-at

abbrev pub functions : Tree
functions = link.table

abbrev pub Below : World → Type 0
Below W = link.Below W

pub linked-poll_request_to_send : (W : World) → Holds W "poll_request_to_send" functions → Below W → HasT (in_world W) true poll_request_to_send.code
linked-poll_request_to_send W h b = link.linked-poll_request_to_send::poll_request_to_send W h b

pub linked-PollRequestToSendCallSlotCall-rule : (W : World) → Holds W "poll_request_to_send" functions → Below W → HasT (in_world W) true PollRequestToSendCallSlotCall-rule.code
linked-PollRequestToSendCallSlotCall-rule W h b = link.linked-poll_request_to_send::PollRequestToSendCallSlotCall::rule W h b

pub linked-PollRequestToSendCallSlotCall-absent : (W : World) → Holds W "poll_request_to_send" functions → Below W → HasT (in_world W) true PollRequestToSendCallSlotCall-absent.code
linked-PollRequestToSendCallSlotCall-absent W h b = link.linked-poll_request_to_send::PollRequestToSendCallSlotCall::absent W h b

pub linked-PollRequestToSendCallSlotCall-at : (W : World) → Holds W "poll_request_to_send" functions → Below W → HasT (in_world W) true PollRequestToSendCallSlotCall-at.code
linked-PollRequestToSendCallSlotCall-at W h b = link.linked-poll_request_to_send::PollRequestToSendCallSlotCall::at W h b
