-- Where a program has the functions of this crate, and what they call of other crates, it has the code of each public one. Made by
-- tools/routines, for crates/routines. Assumes nothing.
use mathlib.Core.Bool.{true}
use prog.Linked.{Tree, World, Holds, in_world}
use prog.LinkedThreads.{HasT}
use Rattle.withdraw_disconnect.proofs.TheLink as link
use Rattle.withdraw_disconnect.proofs.withdraw_disconnect.Symbol as withdraw_disconnect
use Rattle.withdraw_disconnect.proofs.WithdrawDisconnectCallSlotCall.rule.Symbol as WithdrawDisconnectCallSlotCall-rule
use Rattle.withdraw_disconnect.proofs.WithdrawDisconnectCallSlotCall.absent.Symbol as WithdrawDisconnectCallSlotCall-absent
use Rattle.withdraw_disconnect.proofs.WithdrawDisconnectCallSlotCall.at.Symbol as WithdrawDisconnectCallSlotCall-at

abbrev pub functions : Tree
functions = link.table

abbrev pub Below : World → Type 0
Below W = link.Below W

pub linked-withdraw_disconnect : (W : World) → Holds W "withdraw_disconnect" functions → Below W → HasT (in_world W) true withdraw_disconnect.code
linked-withdraw_disconnect W h b = link.linked-withdraw_disconnect::withdraw_disconnect W h b

pub linked-WithdrawDisconnectCallSlotCall-rule : (W : World) → Holds W "withdraw_disconnect" functions → Below W → HasT (in_world W) true WithdrawDisconnectCallSlotCall-rule.code
linked-WithdrawDisconnectCallSlotCall-rule W h b = link.linked-withdraw_disconnect::WithdrawDisconnectCallSlotCall::rule W h b

pub linked-WithdrawDisconnectCallSlotCall-absent : (W : World) → Holds W "withdraw_disconnect" functions → Below W → HasT (in_world W) true WithdrawDisconnectCallSlotCall-absent.code
linked-WithdrawDisconnectCallSlotCall-absent W h b = link.linked-withdraw_disconnect::WithdrawDisconnectCallSlotCall::absent W h b

pub linked-WithdrawDisconnectCallSlotCall-at : (W : World) → Holds W "withdraw_disconnect" functions → Below W → HasT (in_world W) true WithdrawDisconnectCallSlotCall-at.code
linked-WithdrawDisconnectCallSlotCall-at W h b = link.linked-withdraw_disconnect::WithdrawDisconnectCallSlotCall::at W h b
