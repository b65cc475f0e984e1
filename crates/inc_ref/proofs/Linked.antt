-- Where a program has the functions of this crate, and what they call of other crates, it has the code of each public one. Made by
-- tools/routines, for crates/routines. Assumes nothing.
use mathlib.Core.Bool.{true}
use prog.Linked.{Tree, World, Holds, in_world}
use prog.LinkedThreads.{HasT}
use Rattle.inc_ref.proofs.TheLink as link
use Rattle.inc_ref.proofs.inc_ref.Symbol as inc_ref
use Rattle.inc_ref.proofs.IncRefCallSlotCall.rule.Symbol as IncRefCallSlotCall-rule
use Rattle.inc_ref.proofs.IncRefCallSlotCall.absent.Symbol as IncRefCallSlotCall-absent
use Rattle.inc_ref.proofs.IncRefCallSlotCall.at.Symbol as IncRefCallSlotCall-at

abbrev pub functions : Tree
functions = link.table

abbrev pub Below : World → Type 0
Below W = link.Below W

pub linked-inc_ref : (W : World) → Holds W "inc_ref" functions → Below W → HasT (in_world W) true inc_ref.code
linked-inc_ref W h b = link.linked-inc_ref::inc_ref W h b

pub linked-IncRefCallSlotCall-rule : (W : World) → Holds W "inc_ref" functions → Below W → HasT (in_world W) true IncRefCallSlotCall-rule.code
linked-IncRefCallSlotCall-rule W h b = link.linked-inc_ref::IncRefCallSlotCall::rule W h b

pub linked-IncRefCallSlotCall-absent : (W : World) → Holds W "inc_ref" functions → Below W → HasT (in_world W) true IncRefCallSlotCall-absent.code
linked-IncRefCallSlotCall-absent W h b = link.linked-inc_ref::IncRefCallSlotCall::absent W h b

pub linked-IncRefCallSlotCall-at : (W : World) → Holds W "inc_ref" functions → Below W → HasT (in_world W) true IncRefCallSlotCall-at.code
linked-IncRefCallSlotCall-at W h b = link.linked-inc_ref::IncRefCallSlotCall::at W h b
