-- Where a program has the functions of this crate, and what they call of other crates, it has the code of each public one. Made by
-- tools/routines, for crates/routines. Assumes nothing.
use mathlib.Core.Bool.{true}
use prog.Linked.{Tree, World, Holds, in_world}
use prog.LinkedThreads.{HasT}
use Rattle.negotiated_mtu.proofs.TheLink as link
use Rattle.negotiated_mtu.proofs.negotiate_att_mtu.Symbol as negotiate_att_mtu
use Rattle.negotiated_mtu.proofs.get_stored_att_mtu.Symbol as get_stored_att_mtu
use Rattle.negotiated_mtu.proofs.NegotiateAttMtuCallSlotCall.rule.Symbol as NegotiateAttMtuCallSlotCall-rule
use Rattle.negotiated_mtu.proofs.NegotiateAttMtuCallSlotCall.absent.Symbol as NegotiateAttMtuCallSlotCall-absent
use Rattle.negotiated_mtu.proofs.NegotiateAttMtuCallSlotCall.at.Symbol as NegotiateAttMtuCallSlotCall-at
use Rattle.negotiated_mtu.proofs.GetStoredAttMtuCallSlotCall.rule.Symbol as GetStoredAttMtuCallSlotCall-rule
use Rattle.negotiated_mtu.proofs.GetStoredAttMtuCallSlotCall.absent.Symbol as GetStoredAttMtuCallSlotCall-absent
use Rattle.negotiated_mtu.proofs.GetStoredAttMtuCallSlotCall.at.Symbol as GetStoredAttMtuCallSlotCall-at

abbrev pub functions : Tree
functions = link.table

abbrev pub Below : World → Type 0
Below W = link.Below W

pub linked-negotiate_att_mtu : (W : World) → Holds W "negotiated_mtu" functions → Below W → HasT (in_world W) true negotiate_att_mtu.code
linked-negotiate_att_mtu W h b = link.linked-negotiated_mtu::negotiate_att_mtu W h b

pub linked-get_stored_att_mtu : (W : World) → Holds W "negotiated_mtu" functions → Below W → HasT (in_world W) true get_stored_att_mtu.code
linked-get_stored_att_mtu W h b = link.linked-negotiated_mtu::get_stored_att_mtu W h b

pub linked-NegotiateAttMtuCallSlotCall-rule : (W : World) → Holds W "negotiated_mtu" functions → Below W → HasT (in_world W) true NegotiateAttMtuCallSlotCall-rule.code
linked-NegotiateAttMtuCallSlotCall-rule W h b = link.linked-negotiated_mtu::NegotiateAttMtuCallSlotCall::rule W h b

pub linked-NegotiateAttMtuCallSlotCall-absent : (W : World) → Holds W "negotiated_mtu" functions → Below W → HasT (in_world W) true NegotiateAttMtuCallSlotCall-absent.code
linked-NegotiateAttMtuCallSlotCall-absent W h b = link.linked-negotiated_mtu::NegotiateAttMtuCallSlotCall::absent W h b

pub linked-NegotiateAttMtuCallSlotCall-at : (W : World) → Holds W "negotiated_mtu" functions → Below W → HasT (in_world W) true NegotiateAttMtuCallSlotCall-at.code
linked-NegotiateAttMtuCallSlotCall-at W h b = link.linked-negotiated_mtu::NegotiateAttMtuCallSlotCall::at W h b

pub linked-GetStoredAttMtuCallSlotCall-rule : (W : World) → Holds W "negotiated_mtu" functions → Below W → HasT (in_world W) true GetStoredAttMtuCallSlotCall-rule.code
linked-GetStoredAttMtuCallSlotCall-rule W h b = link.linked-negotiated_mtu::GetStoredAttMtuCallSlotCall::rule W h b

pub linked-GetStoredAttMtuCallSlotCall-absent : (W : World) → Holds W "negotiated_mtu" functions → Below W → HasT (in_world W) true GetStoredAttMtuCallSlotCall-absent.code
linked-GetStoredAttMtuCallSlotCall-absent W h b = link.linked-negotiated_mtu::GetStoredAttMtuCallSlotCall::absent W h b

pub linked-GetStoredAttMtuCallSlotCall-at : (W : World) → Holds W "negotiated_mtu" functions → Below W → HasT (in_world W) true GetStoredAttMtuCallSlotCall-at.code
linked-GetStoredAttMtuCallSlotCall-at W h b = link.linked-negotiated_mtu::GetStoredAttMtuCallSlotCall::at W h b
