-- Where a program has the functions of this crate, and what they call of other crates, it has the code of each public one. Made by
-- tools/routines, for crates/routines. Assumes nothing.
use mathlib.Core.Bool.{true}
use prog.Linked.{Tree, World, Holds, in_world}
use prog.LinkedThreads.{HasT}
use Rattle.connect.proofs.TheLink as link
use Rattle.connect.proofs.connect.Symbol as connect
use Rattle.connect.proofs.ConnectCallSlotCall.rule.Symbol as ConnectCallSlotCall-rule
use Rattle.connect.proofs.ConnectCallSlotCall.absent.Symbol as ConnectCallSlotCall-absent
use Rattle.connect.proofs.ConnectCallSlotCall.at.Symbol as ConnectCallSlotCall-at

abbrev pub functions : Tree
functions = link.table

abbrev pub Below : World → Type 0
Below W = link.Below W

pub linked-connect : (W : World) → Holds W "connect" functions → Below W → HasT (in_world W) true connect.code
linked-connect W h b = link.linked-connect::connect W h b

pub linked-ConnectCallSlotCall-rule : (W : World) → Holds W "connect" functions → Below W → HasT (in_world W) true ConnectCallSlotCall-rule.code
linked-ConnectCallSlotCall-rule W h b = link.linked-connect::ConnectCallSlotCall::rule W h b

pub linked-ConnectCallSlotCall-absent : (W : World) → Holds W "connect" functions → Below W → HasT (in_world W) true ConnectCallSlotCall-absent.code
linked-ConnectCallSlotCall-absent W h b = link.linked-connect::ConnectCallSlotCall::absent W h b

pub linked-ConnectCallSlotCall-at : (W : World) → Holds W "connect" functions → Below W → HasT (in_world W) true ConnectCallSlotCall-at.code
linked-ConnectCallSlotCall-at W h b = link.linked-connect::ConnectCallSlotCall::at W h b
