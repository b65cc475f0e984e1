-- Where a program has the functions of this crate, and what they call of other crates, it has the code of each public one. Made by
-- tools/routines, for crates/routines. Assumes nothing.
use mathlib.Core.Bool.{true}
use prog.Linked.{Tree, World, Holds, in_world}
use prog.LinkedThreads.{HasT}
use Rattle.host_event.proofs.TheLink as link
use Rattle.host_event.proofs.received_event.Symbol as received_event
use Rattle.host_event.proofs.EventGivesFromCallUnit.from_call.Symbol as EventGivesFromCallUnit-from_call

abbrev pub functions : Tree
functions = link.table

abbrev pub Below : World → Type 0
Below W = link.Below W

pub linked-received_event : (W : World) → Holds W "host_event" functions → Below W → HasT (in_world W) true received_event.code
linked-received_event W h b = link.linked-host_event::received_event W h b

pub linked-EventGivesFromCallUnit-from_call : (W : World) → Holds W "host_event" functions → Below W → HasT (in_world W) true EventGivesFromCallUnit-from_call.code
linked-EventGivesFromCallUnit-from_call W h b = link.linked-host_event::EventGivesFromCallUnit::from_call W h b
