-- Where a program has the functions of this crate, and what they call of other crates, it has the code of each public one. Made by
-- tools/routines, for crates/routines. Assumes nothing.
use mathlib.Core.Bool.{true}
use prog.Linked.{Tree, World, Holds, in_world}
use prog.LinkedThreads.{HasT}
use Rattle.dec_ref.proofs.TheLink as link
use Rattle.dec_ref.proofs.dec_ref.Symbol as dec_ref
use Rattle.dec_ref.proofs.DecRefCallSlotCall.rule.Symbol as DecRefCallSlotCall-rule
use Rattle.dec_ref.proofs.DecRefCallSlotCall.absent.Symbol as DecRefCallSlotCall-absent
use Rattle.dec_ref.proofs.DecRefCallSlotCall.at.Symbol as DecRefCallSlotCall-at

abbrev pub functions : Tree
functions = link.table

abbrev pub Below : World → Type 0
Below W = link.Below W

pub linked-dec_ref : (W : World) → Holds W "dec_ref" functions → Below W → HasT (in_world W) true dec_ref.code
linked-dec_ref W h b = link.linked-dec_ref::dec_ref W h b

pub linked-DecRefCallSlotCall-rule : (W : World) → Holds W "dec_ref" functions → Below W → HasT (in_world W) true DecRefCallSlotCall-rule.code
linked-DecRefCallSlotCall-rule W h b = link.linked-dec_ref::DecRefCallSlotCall::rule W h b

pub linked-DecRefCallSlotCall-absent : (W : World) → Holds W "dec_ref" functions → Below W → HasT (in_world W) true DecRefCallSlotCall-absent.code
linked-DecRefCallSlotCall-absent W h b = link.linked-dec_ref::DecRefCallSlotCall::absent W h b

pub linked-DecRefCallSlotCall-at : (W : World) → Holds W "dec_ref" functions → Below W → HasT (in_world W) true DecRefCallSlotCall-at.code
linked-DecRefCallSlotCall-at W h b = link.linked-dec_ref::DecRefCallSlotCall::at W h b
