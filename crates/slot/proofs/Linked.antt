-- Where a program has the functions of this crate, and what they call of other crates, it has the code of each public one. Made by
-- tools/routines, for crates/routines. Assumes nothing.
use mathlib.Core.Bool.{true}
use prog.Linked.{Tree, World, Holds, in_world}
use prog.LinkedThreads.{HasT}
use Rattle.slot.proofs.TheLink as link
use Rattle.slot.proofs.ConnectionStorage.new.Symbol as ConnectionStorage-new
use Rattle.slot.proofs.ConnectionStorage.with_state.Symbol as ConnectionStorage-with_state
use Rattle.slot.proofs.ConnectionStorage.with_subrating_params.Symbol as ConnectionStorage-with_subrating_params
use Rattle.slot.proofs.U8FromLeConnRole.from.Symbol as U8FromLeConnRole-from
use Rattle.slot.proofs.LeConnRolePartialEq.eq.Symbol as LeConnRolePartialEq-eq

abbrev pub functions : Tree
functions = link.table

abbrev pub Below : World → Type 0
Below W = link.Below W

pub linked-ConnectionStorage-new : (W : World) → Holds W "slot" functions → Below W → HasT (in_world W) true ConnectionStorage-new.code
linked-ConnectionStorage-new W h b = link.linked-slot::ConnectionStorage::new W h b

pub linked-ConnectionStorage-with_state : (W : World) → Holds W "slot" functions → Below W → HasT (in_world W) true ConnectionStorage-with_state.code
linked-ConnectionStorage-with_state W h b = link.linked-slot::ConnectionStorage::with_state W h b

pub linked-ConnectionStorage-with_subrating_params : (W : World) → Holds W "slot" functions → Below W → HasT (in_world W) true ConnectionStorage-with_subrating_params.code
linked-ConnectionStorage-with_subrating_params W h b = link.linked-slot::ConnectionStorage::with_subrating_params W h b

pub linked-U8FromLeConnRole-from : (W : World) → Holds W "slot" functions → Below W → HasT (in_world W) true U8FromLeConnRole-from.code
linked-U8FromLeConnRole-from W h b = link.linked-slot::U8FromLeConnRole::from W h b

pub linked-LeConnRolePartialEq-eq : (W : World) → Holds W "slot" functions → Below W → HasT (in_world W) true LeConnRolePartialEq-eq.code
linked-LeConnRolePartialEq-eq W h b = link.linked-slot::LeConnRolePartialEq::eq W h b
