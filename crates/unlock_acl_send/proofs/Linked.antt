-- Where a program has the functions of this crate, and what they call of other crates, it has the code of each public one. Made by
-- tools/routines, for crates/routines. Assumes nothing.
use mathlib.Core.Bool.{true}
use prog.Linked.{Tree, World, Holds, in_world}
use prog.LinkedThreads.{HasT}
use Rattle.unlock_acl_send.proofs.TheLink as link
use Rattle.unlock_acl_send.proofs.unlock_acl_send.Symbol as unlock_acl_send
use Rattle.unlock_acl_send.proofs.UnlockAclSendCallSlotCall.rule.Symbol as UnlockAclSendCallSlotCall-rule
use Rattle.unlock_acl_send.proofs.UnlockAclSendCallSlotCall.absent.Symbol as UnlockAclSendCallSlotCall-absent
use Rattle.unlock_acl_send.proofs.UnlockAclSendCallSlotCall.at.Symbol as UnlockAclSendCallSlotCall-at

abbrev pub functions : Tree
functions = link.table

abbrev pub Below : World → Type 0
Below W = link.Below W

pub linked-unlock_acl_send : (W : World) → Holds W "unlock_acl_send" functions → Below W → HasT (in_world W) true unlock_acl_send.code
linked-unlock_acl_send W h b = link.linked-unlock_acl_send::unlock_acl_send W h b

pub linked-UnlockAclSendCallSlotCall-rule : (W : World) → Holds W "unlock_acl_send" functions → Below W → HasT (in_world W) true UnlockAclSendCallSlotCall-rule.code
linked-UnlockAclSendCallSlotCall-rule W h b = link.linked-unlock_acl_send::UnlockAclSendCallSlotCall::rule W h b

pub linked-UnlockAclSendCallSlotCall-absent : (W : World) → Holds W "unlock_acl_send" functions → Below W → HasT (in_world W) true UnlockAclSendCallSlotCall-absent.code
linked-UnlockAclSendCallSlotCall-absent W h b = link.linked-unlock_acl_send::UnlockAclSendCallSlotCall::absent W h b

pub linked-UnlockAclSendCallSlotCall-at : (W : World) → Holds W "unlock_acl_send" functions → Below W → HasT (in_world W) true UnlockAclSendCallSlotCall-at.code
linked-UnlockAclSendCallSlotCall-at W h b = link.linked-unlock_acl_send::UnlockAclSendCallSlotCall::at W h b
