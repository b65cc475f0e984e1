-- Where a program has the functions of this crate, and what they call of other crates, it has the code of each public one. Made by
-- tools/routines, for crates/routines. Assumes nothing.
use mathlib.Core.Bool.{true}
use prog.Linked.{Tree, World, Holds, in_world}
use prog.LinkedThreads.{HasT}
use Rattle.host_att.proofs.TheLink as link
use Rattle.host_att.proofs.received_att.Symbol as received_att
use Rattle.host_att.proofs.AttGivesFromCallU16.from_call.Symbol as AttGivesFromCallU16-from_call
use Rattle.host_att.proofs.AttGivesFromCallUnit.from_call.Symbol as AttGivesFromCallUnit-from_call

abbrev pub functions : Tree
functions = link.table

abbrev pub Below : World → Type 0
Below W = link.Below W

pub linked-received_att : (W : World) → Holds W "host_att" functions → Below W → HasT (in_world W) true received_att.code
linked-received_att W h b = link.linked-host_att::received_att W h b

pub linked-AttGivesFromCallU16-from_call : (W : World) → Holds W "host_att" functions → Below W → HasT (in_world W) true AttGivesFromCallU16-from_call.code
linked-AttGivesFromCallU16-from_call W h b = link.linked-host_att::AttGivesFromCallU16::from_call W h b

pub linked-AttGivesFromCallUnit-from_call : (W : World) → Holds W "host_att" functions → Below W → HasT (in_world W) true AttGivesFromCallUnit-from_call.code
linked-AttGivesFromCallUnit-from_call W h b = link.linked-host_att::AttGivesFromCallUnit::from_call W h b
