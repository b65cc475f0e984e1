-- Where a program has the functions of this crate, and what they call of other crates, it has the code of each public one. Made by
-- tools/routines, for crates/routines. Assumes nothing.
use mathlib.Core.Bool.{true}
use prog.Linked.{Tree, World, Holds, in_world}
use prog.LinkedThreads.{HasT}
use Rattle.poll_acquire_acl_send_lock.proofs.TheLink as link
use Rattle.poll_acquire_acl_send_lock.proofs.poll_acquire_acl_send_lock.Symbol as poll_acquire_acl_send_lock
use Rattle.poll_acquire_acl_send_lock.proofs.PollAcquireAclSendLockCallSlotCall.rule.Symbol as PollAcquireAclSendLockCallSlotCall-rule
use Rattle.poll_acquire_acl_send_lock.proofs.PollAcquireAclSendLockCallSlotCall.absent.Symbol as PollAcquireAclSendLockCallSlotCall-absent
use Rattle.poll_acquire_acl_send_lock.proofs.PollAcquireAclSendLockCallSlotCall.at.Symbol as PollAcquireAclSendLockCallSlotCall-at

abbrev pub functions : Tree
functions = link.table

abbrev pub Below : World → Type 0
Below W = link.Below W

pub linked-poll_acquire_acl_send_lock : (W : World) → Holds W "poll_acquire_acl_send_lock" functions → Below W → HasT (in_world W) true poll_acquire_acl_send_lock.code
linked-poll_acquire_acl_send_lock W h b = link.linked-poll_acquire_acl_send_lock::poll_acquire_acl_send_lock W h b

pub linked-PollAcquireAclSendLockCallSlotCall-rule : (W : World) → Holds W "poll_acquire_acl_send_lock" functions → Below W → HasT (in_world W) true PollAcquireAclSendLockCallSlotCall-rule.code
linked-PollAcquireAclSendLockCallSlotCall-rule W h b = link.linked-poll_acquire_acl_send_lock::PollAcquireAclSendLockCallSlotCall::rule W h b

pub linked-PollAcquireAclSendLockCallSlotCall-absent : (W : World) → Holds W "poll_acquire_acl_send_lock" functions → Below W → HasT (in_world W) true PollAcquireAclSendLockCallSlotCall-absent.code
linked-PollAcquireAclSendLockCallSlotCall-absent W h b = link.linked-poll_acquire_acl_send_lock::PollAcquireAclSendLockCallSlotCall::absent W h b

pub linked-PollAcquireAclSendLockCallSlotCall-at : (W : World) → Holds W "poll_acquire_acl_send_lock" functions → Below W → HasT (in_world W) true PollAcquireAclSendLockCallSlotCall-at.code
linked-PollAcquireAclSendLockCallSlotCall-at W h b = link.linked-poll_acquire_acl_send_lock::PollAcquireAclSendLockCallSlotCall::at W h b
