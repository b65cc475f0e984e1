-- Where a program has the functions of this crate, and what they call of other crates, it has the code of each public one. Made by
-- tools/routines, for crates/routines. Assumes nothing.
use mathlib.Core.Bool.{true}
use prog.Linked.{Tree, World, Holds, in_world}
use prog.LinkedThreads.{HasT}
use Rattle.accept.proofs.TheLink as link
use Rattle.accept.proofs.poll_accept_any.Symbol as poll_accept_any
use Rattle.accept.proofs.accept_at.Symbol as accept_at
use Rattle.accept.proofs.poll_accept_among.Symbol as poll_accept_among
use Rattle.accept.proofs.poll_accept.Symbol as poll_accept
use Rattle.accept.proofs.poll_accept_listed.Symbol as poll_accept_listed
use Rattle.accept.proofs.PollAcceptAnyCallSlotCall.rule.Symbol as PollAcceptAnyCallSlotCall-rule
use Rattle.accept.proofs.PollAcceptAnyCallSlotCall.absent.Symbol as PollAcceptAnyCallSlotCall-absent
use Rattle.accept.proofs.PollAcceptAnyCallSlotCall.at.Symbol as PollAcceptAnyCallSlotCall-at
use Rattle.accept.proofs.ListedPeerSet.contains.Symbol as ListedPeerSet-contains

abbrev pub functions : Tree
functions = link.table

abbrev pub Below : World → Type 0
Below W = link.Below W

pub linked-poll_accept_any : (W : World) → Holds W "accept" functions → Below W → HasT (in_world W) true poll_accept_any.code
linked-poll_accept_any W h b = link.linked-accept::poll_accept_any W h b

pub linked-accept_at : (W : World) → Holds W "accept" functions → Below W → HasT (in_world W) true accept_at.code
linked-accept_at W h b = link.linked-accept::accept_at W h b

pub linked-poll_accept_among : (W : World) → Holds W "accept" functions → Below W → HasT (in_world W) true poll_accept_among.code
linked-poll_accept_among W h b = link.linked-accept::poll_accept_among W h b

pub linked-poll_accept : (W : World) → Holds W "accept" functions → Below W → HasT (in_world W) true poll_accept.code
linked-poll_accept W h b = link.linked-accept::poll_accept W h b

pub linked-poll_accept_listed : (W : World) → Holds W "accept" functions → Below W → HasT (in_world W) true poll_accept_listed.code
linked-poll_accept_listed W h b = link.linked-accept::poll_accept_listed W h b

pub linked-PollAcceptAnyCallSlotCall-rule : (W : World) → Holds W "accept" functions → Below W → HasT (in_world W) true PollAcceptAnyCallSlotCall-rule.code
linked-PollAcceptAnyCallSlotCall-rule W h b = link.linked-accept::PollAcceptAnyCallSlotCall::rule W h b

pub linked-PollAcceptAnyCallSlotCall-absent : (W : World) → Holds W "accept" functions → Below W → HasT (in_world W) true PollAcceptAnyCallSlotCall-absent.code
linked-PollAcceptAnyCallSlotCall-absent W h b = link.linked-accept::PollAcceptAnyCallSlotCall::absent W h b

pub linked-PollAcceptAnyCallSlotCall-at : (W : World) → Holds W "accept" functions → Below W → HasT (in_world W) true PollAcceptAnyCallSlotCall-at.code
linked-PollAcceptAnyCallSlotCall-at W h b = link.linked-accept::PollAcceptAnyCallSlotCall::at W h b

pub linked-ListedPeerSet-contains : (W : World) → Holds W "accept" functions → Below W → HasT (in_world W) true ListedPeerSet-contains.code
linked-ListedPeerSet-contains W h b = link.linked-accept::ListedPeerSet::contains W h b
