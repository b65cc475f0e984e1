-- Where a program has the functions of this crate, and what they call of other crates, it has the code of each public one. Made by
-- tools/routines, for crates/routines. Assumes nothing.
use mathlib.Core.Bool.{true}
use prog.Linked.{Tree, World, Holds, in_world}
use prog.LinkedThreads.{HasT}
use Rattle.att_mtu.proofs.TheLink as link
use Rattle.att_mtu.proofs.answered.Symbol as answered
use Rattle.att_mtu.proofs.lesser.Symbol as lesser
use Rattle.att_mtu.proofs.exchange_att_mtu.Symbol as exchange_att_mtu
use Rattle.att_mtu.proofs.get_att_mtu_handle.Symbol as get_att_mtu_handle
use Rattle.att_mtu.proofs.ExchangeAttMtuCallSlotCall.rule.Symbol as ExchangeAttMtuCallSlotCall-rule
use Rattle.att_mtu.proofs.ExchangeAttMtuCallSlotCall.absent.Symbol as ExchangeAttMtuCallSlotCall-absent
use Rattle.att_mtu.proofs.ExchangeAttMtuCallSlotCall.at.Symbol as ExchangeAttMtuCallSlotCall-at
use Rattle.att_mtu.proofs.GetAttMtuHandleCallSlotCall.rule.Symbol as GetAttMtuHandleCallSlotCall-rule
use Rattle.att_mtu.proofs.GetAttMtuHandleCallSlotCall.absent.Symbol as GetAttMtuHandleCallSlotCall-absent
use Rattle.att_mtu.proofs.GetAttMtuHandleCallSlotCall.at.Symbol as GetAttMtuHandleCallSlotCall-at

abbrev pub functions : Tree
functions = link.table

abbrev pub Below : World → Type 0
Below W = link.Below W

pub linked-answered : (W : World) → Holds W "att_mtu" functions → Below W → HasT (in_world W) true answered.code
linked-answered W h b = link.linked-att_mtu::answered W h b

pub linked-lesser : (W : World) → Holds W "att_mtu" functions → Below W → HasT (in_world W) true lesser.code
linked-lesser W h b = link.linked-att_mtu::lesser W h b

pub linked-exchange_att_mtu : (W : World) → Holds W "att_mtu" functions → Below W → HasT (in_world W) true exchange_att_mtu.code
linked-exchange_att_mtu W h b = link.linked-att_mtu::exchange_att_mtu W h b

pub linked-get_att_mtu_handle : (W : World) → Holds W "att_mtu" functions → Below W → HasT (in_world W) true get_att_mtu_handle.code
linked-get_att_mtu_handle W h b = link.linked-att_mtu::get_att_mtu_handle W h b

pub linked-ExchangeAttMtuCallSlotCall-rule : (W : World) → Holds W "att_mtu" functions → Below W → HasT (in_world W) true ExchangeAttMtuCallSlotCall-rule.code
linked-ExchangeAttMtuCallSlotCall-rule W h b = link.linked-att_mtu::ExchangeAttMtuCallSlotCall::rule W h b

pub linked-ExchangeAttMtuCallSlotCall-absent : (W : World) → Holds W "att_mtu" functions → Below W → HasT (in_world W) true ExchangeAttMtuCallSlotCall-absent.code
linked-ExchangeAttMtuCallSlotCall-absent W h b = link.linked-att_mtu::ExchangeAttMtuCallSlotCall::absent W h b

pub linked-ExchangeAttMtuCallSlotCall-at : (W : World) → Holds W "att_mtu" functions → Below W → HasT (in_world W) true ExchangeAttMtuCallSlotCall-at.code
linked-ExchangeAttMtuCallSlotCall-at W h b = link.linked-att_mtu::ExchangeAttMtuCallSlotCall::at W h b

pub linked-GetAttMtuHandleCallSlotCall-rule : (W : World) → Holds W "att_mtu" functions → Below W → HasT (in_world W) true GetAttMtuHandleCallSlotCall-rule.code
linked-GetAttMtuHandleCallSlotCall-rule W h b = link.linked-att_mtu::GetAttMtuHandleCallSlotCall::rule W h b

pub linked-GetAttMtuHandleCallSlotCall-absent : (W : World) → Holds W "att_mtu" functions → Below W → HasT (in_world W) true GetAttMtuHandleCallSlotCall-absent.code
linked-GetAttMtuHandleCallSlotCall-absent W h b = link.linked-att_mtu::GetAttMtuHandleCallSlotCall::absent W h b

pub linked-GetAttMtuHandleCallSlotCall-at : (W : World) → Holds W "att_mtu" functions → Below W → HasT (in_world W) true GetAttMtuHandleCallSlotCall-at.code
linked-GetAttMtuHandleCallSlotCall-at W h b = link.linked-att_mtu::GetAttMtuHandleCallSlotCall::at W h b
