-- Where a program has the functions of this crate, and what they call of other crates, it has the code of each public one. Made by
-- tools/routines, for crates/routines. Assumes nothing.
use mathlib.Core.Bool.{true}
use prog.Linked.{Tree, World, Holds, in_world}
use prog.LinkedThreads.{HasT}
use Rattle.lookup.proofs.TheLink as link
use Rattle.lookup.proofs.get_connected_handle.Symbol as get_connected_handle
use Rattle.lookup.proofs.get_connection_by_peer_address.Symbol as get_connection_by_peer_address
use Rattle.lookup.proofs.GetConnectedHandleCallSlotCall.rule.Symbol as GetConnectedHandleCallSlotCall-rule
use Rattle.lookup.proofs.GetConnectedHandleCallSlotCall.absent.Symbol as GetConnectedHandleCallSlotCall-absent
use Rattle.lookup.proofs.GetConnectedHandleCallSlotCall.at.Symbol as GetConnectedHandleCallSlotCall-at
use Rattle.lookup.proofs.GetConnectionByPeerAddressCallSlotCall.rule.Symbol as GetConnectionByPeerAddressCallSlotCall-rule
use Rattle.lookup.proofs.GetConnectionByPeerAddressCallSlotCall.absent.Symbol as GetConnectionByPeerAddressCallSlotCall-absent
use Rattle.lookup.proofs.GetConnectionByPeerAddressCallSlotCall.at.Symbol as GetConnectionByPeerAddressCallSlotCall-at

abbrev pub functions : Tree
functions = link.table

abbrev pub Below : World → Type 0
Below W = link.Below W

pub linked-get_connected_handle : (W : World) → Holds W "lookup" functions → Below W → HasT (in_world W) true get_connected_handle.code
linked-get_connected_handle W h b = link.linked-lookup::get_connected_handle W h b

pub linked-get_connection_by_peer_address : (W : World) → Holds W "lookup" functions → Below W → HasT (in_world W) true get_connection_by_peer_address.code
linked-get_connection_by_peer_address W h b = link.linked-lookup::get_connection_by_peer_address W h b

pub linked-GetConnectedHandleCallSlotCall-rule : (W : World) → Holds W "lookup" functions → Below W → HasT (in_world W) true GetConnectedHandleCallSlotCall-rule.code
linked-GetConnectedHandleCallSlotCall-rule W h b = link.linked-lookup::GetConnectedHandleCallSlotCall::rule W h b

pub linked-GetConnectedHandleCallSlotCall-absent : (W : World) → Holds W "lookup" functions → Below W → HasT (in_world W) true GetConnectedHandleCallSlotCall-absent.code
linked-GetConnectedHandleCallSlotCall-absent W h b = link.linked-lookup::GetConnectedHandleCallSlotCall::absent W h b

pub linked-GetConnectedHandleCallSlotCall-at : (W : World) → Holds W "lookup" functions → Below W → HasT (in_world W) true GetConnectedHandleCallSlotCall-at.code
linked-GetConnectedHandleCallSlotCall-at W h b = link.linked-lookup::GetConnectedHandleCallSlotCall::at W h b

pub linked-GetConnectionByPeerAddressCallSlotCall-rule : (W : World) → Holds W "lookup" functions → Below W → HasT (in_world W) true GetConnectionByPeerAddressCallSlotCall-rule.code
linked-GetConnectionByPeerAddressCallSlotCall-rule W h b = link.linked-lookup::GetConnectionByPeerAddressCallSlotCall::rule W h b

pub linked-GetConnectionByPeerAddressCallSlotCall-absent : (W : World) → Holds W "lookup" functions → Below W → HasT (in_world W) true GetConnectionByPeerAddressCallSlotCall-absent.code
linked-GetConnectionByPeerAddressCallSlotCall-absent W h b = link.linked-lookup::GetConnectionByPeerAddressCallSlotCall::absent W h b

pub linked-GetConnectionByPeerAddressCallSlotCall-at : (W : World) → Holds W "lookup" functions → Below W → HasT (in_world W) true GetConnectionByPeerAddressCallSlotCall-at.code
linked-GetConnectionByPeerAddressCallSlotCall-at W h b = link.linked-lookup::GetConnectionByPeerAddressCallSlotCall::at W h b
