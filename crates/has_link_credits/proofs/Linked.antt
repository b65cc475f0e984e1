-- Where a program has the functions of this crate, and what they call of other crates, it has the code of each public one. Made by
-- tools/routines, for crates/routines. Assumes nothing.
use mathlib.Core.Bool.{true}
use prog.Linked.{Tree, World, Holds, in_world}
use prog.LinkedThreads.{HasT}
use Rattle.has_link_credits.proofs.TheLink as link
use Rattle.has_link_credits.proofs.has_link_credits.Symbol as has_link_credits
use Rattle.has_link_credits.proofs.HasLinkCreditsCallSlotCall.rule.Symbol as HasLinkCreditsCallSlotCall-rule
use Rattle.has_link_credits.proofs.HasLinkCreditsCallSlotCall.absent.Symbol as HasLinkCreditsCallSlotCall-absent
use Rattle.has_link_credits.proofs.HasLinkCreditsCallSlotCall.at.Symbol as HasLinkCreditsCallSlotCall-at

abbrev pub functions : Tree
functions = link.table

abbrev pub Below : World → Type 0
Below W = link.Below W

pub linked-has_link_credits : (W : World) → Holds W "has_link_credits" functions → Below W → HasT (in_world W) true has_link_credits.code
linked-has_link_credits W h b = link.linked-has_link_credits::has_link_credits W h b

pub linked-HasLinkCreditsCallSlotCall-rule : (W : World) → Holds W "has_link_credits" functions → Below W → HasT (in_world W) true HasLinkCreditsCallSlotCall-rule.code
linked-HasLinkCreditsCallSlotCall-rule W h b = link.linked-has_link_credits::HasLinkCreditsCallSlotCall::rule W h b

pub linked-HasLinkCreditsCallSlotCall-absent : (W : World) → Holds W "has_link_credits" functions → Below W → HasT (in_world W) true HasLinkCreditsCallSlotCall-absent.code
linked-HasLinkCreditsCallSlotCall-absent W h b = link.linked-has_link_credits::HasLinkCreditsCallSlotCall::absent W h b

pub linked-HasLinkCreditsCallSlotCall-at : (W : World) → Holds W "has_link_credits" functions → Below W → HasT (in_world W) true HasLinkCreditsCallSlotCall-at.code
linked-HasLinkCreditsCallSlotCall-at W h b = link.linked-has_link_credits::HasLinkCreditsCallSlotCall::at W h b
