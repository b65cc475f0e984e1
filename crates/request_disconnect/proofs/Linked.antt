-- Where a program has the functions of this crate, and what they call of other crates, it has the code of each public one. Made by
-- tools/routines, for crates/routines. Assumes nothing.
use mathlib.Core.Bool.{true}
use prog.Linked.{Tree, World, Holds, in_world}
use prog.LinkedThreads.{HasT}
use Rattle.request_disconnect.proofs.TheLink as link
use Rattle.request_disconnect.proofs.request_disconnect.Symbol as request_disconnect
use Rattle.request_disconnect.proofs.request_handle_disconnect.Symbol as request_handle_disconnect
use Rattle.request_disconnect.proofs.RequestDisconnectCallSlotCall.rule.Symbol as RequestDisconnectCallSlotCall-rule
use Rattle.request_disconnect.proofs.RequestDisconnectCallSlotCall.absent.Symbol as RequestDisconnectCallSlotCall-absent
use Rattle.request_disconnect.proofs.RequestDisconnectCallSlotCall.at.Symbol as RequestDisconnectCallSlotCall-at
use Rattle.request_disconnect.proofs.RequestHandleDisconnectCallSlotCall.rule.Symbol as RequestHandleDisconnectCallSlotCall-rule
use Rattle.request_disconnect.proofs.RequestHandleDisconnectCallSlotCall.absent.Symbol as RequestHandleDisconnectCallSlotCall-absent
use Rattle.request_disconnect.proofs.RequestHandleDisconnectCallSlotCall.at.Symbol as RequestHandleDisconnectCallSlotCall-at

abbrev pub functions : Tree
functions = link.table

abbrev pub Below : World → Type 0
Below W = link.Below W

pub linked-request_disconnect : (W : World) → Holds W "request_disconnect" functions → Below W → HasT (in_world W) true request_disconnect.code
linked-request_disconnect W h b = link.linked-request_disconnect::request_disconnect W h b

pub linked-request_handle_disconnect : (W : World) → Holds W "request_disconnect" functions → Below W → HasT (in_world W) true request_handle_disconnect.code
linked-request_handle_disconnect W h b = link.linked-request_disconnect::request_handle_disconnect W h b

pub linked-RequestDisconnectCallSlotCall-rule : (W : World) → Holds W "request_disconnect" functions → Below W → HasT (in_world W) true RequestDisconnectCallSlotCall-rule.code
linked-RequestDisconnectCallSlotCall-rule W h b = link.linked-request_disconnect::RequestDisconnectCallSlotCall::rule W h b

pub linked-RequestDisconnectCallSlotCall-absent : (W : World) → Holds W "request_disconnect" functions → Below W → HasT (in_world W) true RequestDisconnectCallSlotCall-absent.code
linked-RequestDisconnectCallSlotCall-absent W h b = link.linked-request_disconnect::RequestDisconnectCallSlotCall::absent W h b

pub linked-RequestDisconnectCallSlotCall-at : (W : World) → Holds W "request_disconnect" functions → Below W → HasT (in_world W) true RequestDisconnectCallSlotCall-at.code
linked-RequestDisconnectCallSlotCall-at W h b = link.linked-request_disconnect::RequestDisconnectCallSlotCall::at W h b

pub linked-RequestHandleDisconnectCallSlotCall-rule : (W : World) → Holds W "request_disconnect" functions → Below W → HasT (in_world W) true RequestHandleDisconnectCallSlotCall-rule.code
linked-RequestHandleDisconnectCallSlotCall-rule W h b = link.linked-request_disconnect::RequestHandleDisconnectCallSlotCall::rule W h b

pub linked-RequestHandleDisconnectCallSlotCall-absent : (W : World) → Holds W "request_disconnect" functions → Below W → HasT (in_world W) true RequestHandleDisconnectCallSlotCall-absent.code
linked-RequestHandleDisconnectCallSlotCall-absent W h b = link.linked-request_disconnect::RequestHandleDisconnectCallSlotCall::absent W h b

pub linked-RequestHandleDisconnectCallSlotCall-at : (W : World) → Holds W "request_disconnect" functions → Below W → HasT (in_world W) true RequestHandleDisconnectCallSlotCall-at.code
linked-RequestHandleDisconnectCallSlotCall-at W h b = link.linked-request_disconnect::RequestHandleDisconnectCallSlotCall::at W h b
