-- Where a program has the functions of this crate, and what they call of other crates, it has the code of each public one. Made by
-- tools/routines, for crates/routines. Assumes nothing.
use mathlib.Core.Bool.{true}
use prog.Linked.{Tree, World, Holds, in_world}
use prog.LinkedThreads.{HasT}
use Rattle.grant_end.proofs.TheLink as link
use Rattle.grant_end.proofs.grant_end.Symbol as grant_end
use Rattle.grant_end.proofs.GrantEndCallSlotCall.rule.Symbol as GrantEndCallSlotCall-rule
use Rattle.grant_end.proofs.GrantEndCallSlotCall.absent.Symbol as GrantEndCallSlotCall-absent
use Rattle.grant_end.proofs.GrantEndCallSlotCall.at.Symbol as GrantEndCallSlotCall-at

abbrev pub functions : Tree
functions = link.table

abbrev pub Below : World → Type 0
Below W = link.Below W

pub linked-grant_end : (W : World) → Holds W "grant_end" functions → Below W → HasT (in_world W) true grant_end.code
linked-grant_end W h b = link.linked-grant_end::grant_end W h b

pub linked-GrantEndCallSlotCall-rule : (W : World) → Holds W "grant_end" functions → Below W → HasT (in_world W) true GrantEndCallSlotCall-rule.code
linked-GrantEndCallSlotCall-rule W h b = link.linked-grant_end::GrantEndCallSlotCall::rule W h b

pub linked-GrantEndCallSlotCall-absent : (W : World) → Holds W "grant_end" functions → Below W → HasT (in_world W) true GrantEndCallSlotCall-absent.code
linked-GrantEndCallSlotCall-absent W h b = link.linked-grant_end::GrantEndCallSlotCall::absent W h b

pub linked-GrantEndCallSlotCall-at : (W : World) → Holds W "grant_end" functions → Below W → HasT (in_world W) true GrantEndCallSlotCall-at.code
linked-GrantEndCallSlotCall-at W h b = link.linked-grant_end::GrantEndCallSlotCall::at W h b
