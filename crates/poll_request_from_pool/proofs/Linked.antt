-- Where a program has the functions of this crate, and what they call of other crates, it has the code of each public one. Made by
-- tools/routines, for crates/routines. Assumes nothing.
use mathlib.Core.Bool.{true}
use prog.Linked.{Tree, World, Holds, in_world}
use prog.LinkedThreads.{HasT}
use Rattle.poll_request_from_pool.proofs.TheLink as link
use Rattle.poll_request_from_pool.proofs.poll_request_from_pool.Symbol as poll_request_from_pool
use Rattle.poll_request_from_pool.proofs.PollRequestFromPoolCallSlotCall.rule.Symbol as PollRequestFromPoolCallSlotCall-rule
use Rattle.poll_request_from_pool.proofs.PollRequestFromPoolCallSlotCall.absent.Symbol as PollRequestFromPoolCallSlotCall-absent
use Rattle.poll_request_from_pool.proofs.PollRequestFromPoolCallSlotCall.at.Symbol as PollRequestFromPoolCallSlotCall-at

abbrev pub functions : Tree
functions = link.table

abbrev pub Below : World → Type 0
Below W = link.Below W

pub linked-poll_request_from_pool : (W : World) → Holds W "poll_request_from_pool" functions → Below W → HasT (in_world W) true poll_request_from_pool.code
linked-poll_request_from_pool W h b = link.linked-poll_request_from_pool::poll_request_from_pool W h b

pub linked-PollRequestFromPoolCallSlotCall-rule : (W : World) → Holds W "poll_request_from_pool" functions → Below W → HasT (in_world W) true PollRequestFromPoolCallSlotCall-rule.code
linked-PollRequestFromPoolCallSlotCall-rule W h b = link.linked-poll_request_from_pool::PollRequestFromPoolCallSlotCall::rule W h b

pub linked-PollRequestFromPoolCallSlotCall-absent : (W : World) → Holds W "poll_request_from_pool" functions → Below W → HasT (in_world W) true PollRequestFromPoolCallSlotCall-absent.code
linked-PollRequestFromPoolCallSlotCall-absent W h b = link.linked-poll_request_from_pool::PollRequestFromPoolCallSlotCall::absent W h b

pub linked-PollRequestFromPoolCallSlotCall-at : (W : World) → Holds W "poll_request_from_pool" functions → Below W → HasT (in_world W) true PollRequestFromPoolCallSlotCall-at.code
linked-PollRequestFromPoolCallSlotCall-at W h b = link.linked-poll_request_from_pool::PollRequestFromPoolCallSlotCall::at W h b
