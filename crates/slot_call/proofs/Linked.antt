-- Where a program has the functions of this crate, and what they call of other crates, it has the code of each public one. Made by
-- tools/routines, for crates/routines. Assumes nothing.
use mathlib.Core.Bool.{true}
use prog.Linked.{Tree, World, Holds, in_world}
use prog.LinkedThreads.{HasT}
use Rattle.slot_call.proofs.TheLink as link
use Rattle.slot_call.proofs.unshared.Symbol as unshared
use Rattle.slot_call.proofs.found.Symbol as found
use Rattle.slot_call.proofs.view.Symbol as view
use Rattle.slot_call.proofs.work_in.Symbol as work_in
use Rattle.slot_call.proofs.resolve_in.Symbol as resolve_in
use Rattle.slot_call.proofs.resolve.Symbol as resolve
use Rattle.slot_call.proofs.resolve_look.Symbol as resolve_look
use Rattle.slot_call.proofs.LocalClone.clone.Symbol as LocalClone-clone

abbrev pub functions : Tree
functions = link.table

abbrev pub Below : World → Type 0
Below W = link.Below W

pub linked-unshared : (W : World) → Holds W "slot_call" functions → Below W → HasT (in_world W) true unshared.code
linked-unshared W h b = link.linked-slot_call::unshared W h b

pub linked-found : (W : World) → Holds W "slot_call" functions → Below W → HasT (in_world W) true found.code
linked-found W h b = link.linked-slot_call::found W h b

pub linked-view : (W : World) → Holds W "slot_call" functions → Below W → HasT (in_world W) true view.code
linked-view W h b = link.linked-slot_call::view W h b

pub linked-work_in : (W : World) → Holds W "slot_call" functions → Below W → HasT (in_world W) true work_in.code
linked-work_in W h b = link.linked-slot_call::work_in W h b

pub linked-resolve_in : (W : World) → Holds W "slot_call" functions → Below W → HasT (in_world W) true resolve_in.code
linked-resolve_in W h b = link.linked-slot_call::resolve_in W h b

pub linked-resolve : (W : World) → Holds W "slot_call" functions → Below W → HasT (in_world W) true resolve.code
linked-resolve W h b = link.linked-slot_call::resolve W h b

pub linked-resolve_look : (W : World) → Holds W "slot_call" functions → Below W → HasT (in_world W) true resolve_look.code
linked-resolve_look W h b = link.linked-slot_call::resolve_look W h b

pub linked-LocalClone-clone : (W : World) → Holds W "slot_call" functions → Below W → HasT (in_world W) true LocalClone-clone.code
linked-LocalClone-clone W h b = link.linked-slot_call::LocalClone::clone W h b
