-- What each call of the enum stands for, and the number and values of its answer. Assumes nothing.
use Rattle.std.specs.Prelude.{ℕ, []}
use Rattle.model.specs.Answer.{Reply, Outcome, reply_of, no_value, one_value, event_values}
use Rattle.model.specs.Link.{acquire_indication_slot, confirm, confirm_sent, dec_ref, disconnected, exchange_att_mtu, get_att_mtu_handle, negotiate_att_mtu, get_stored_att_mtu, get_connected_handle, grant_end, has_link_credits, inc_ref, next, poll_acquire_acl_send_lock, poll_request_to_send, post_handle_event, release_indication_slot, request_disconnect, request_handle_disconnect, signal_indication_confirmation, unlock_acl_send, wait_indication_confirmation, withdraw_disconnect}
use Rattle.model.specs.Calls.{Call as ModelCall, on_link, connects, poll_accept_call, get_connection_by_peer_address_call, poll_disconnecting_call, set_link_credits_call, total_lost_call, poll_request_from_pool_call, pool_confirm_sent_call, pool_grant_end_call, grant_values}
use Rattle.slot_call.specs.Answer.{ended_values}
use Rattle.has_link_credits.specs.Answer.{bit_values}
use Rattle.poll_disconnecting.specs.Answer.{ticket_values}
use Rattle.poll_acquire_acl_send_lock.specs.Answer.{lock_values}
use Rattle.poll_request_from_pool.specs.Answer.{pool_grant_values}
use Rattle.slot.specs.declared.ConnectionManager.{ConnectionManager}
use Rattle.calls.specs.declared.Call.{Call}
use Rattle.calls.specs.declared.Call.TheVariants as call
use Rattle.calls.specs.declared.CallAnswer.{CallAnswer}
use Rattle.calls.specs.declared.CallAnswer.TheVariants as answer
use Rattle.calls.specs.declared.CallLook.{CallLook}
use Rattle.calls.specs.declared.CallOutcome.{CallOutcome}

-- the call of the model
abbrev pub call_of : Call → ModelCall
call_of (call.Connect a) = connects a.handle a.peer a.role a.params
call_of (call.PollAccept a) = poll_accept_call a []
call_of (call.GetConnectedHandle a) = on_link get_connected_handle a
call_of (call.GetConnectionByPeerAddress a) = get_connection_by_peer_address_call a
call_of (call.IncRef a) = on_link inc_ref a
call_of (call.DecRef a) = on_link dec_ref a
call_of (call.RequestDisconnect a b) = on_link (request_disconnect b) a
call_of (call.RequestHandleDisconnect a b) = on_link (request_handle_disconnect b) a
call_of call.PollDisconnecting = poll_disconnecting_call
call_of (call.Confirm a) = on_link (confirm a.handle a.life a.reason) a.index
call_of (call.Disconnected a b) = on_link (disconnected b) a
call_of (call.PostHandleEvent a b) = on_link (post_handle_event b) a
call_of (call.Next a) = on_link next a
call_of (call.PollAcquireAclSendLock a) = on_link poll_acquire_acl_send_lock a
call_of (call.UnlockAclSend a) = on_link (unlock_acl_send a.handle a.life) a.index
call_of (call.PollRequestToSend a b) = on_link (poll_request_to_send a.index a.life b) a.handle
call_of (call.GrantEnd a) = on_link (grant_end a.handle a.life a.packets) a.index
call_of (call.ConfirmSent a b) = on_link (confirm_sent b) a
call_of (call.SetLinkCredits a) = set_link_credits_call a
call_of (call.HasLinkCredits a b) = on_link (has_link_credits b) a
call_of (call.ExchangeAttMtu a b) = on_link (exchange_att_mtu b) a
call_of (call.GetAttMtuHandle a) = on_link get_att_mtu_handle a
call_of (call.AcquireIndicationSlot a) = on_link acquire_indication_slot a
call_of (call.ReleaseIndicationSlot a) = on_link release_indication_slot a
call_of (call.SignalIndicationConfirmation a) = on_link signal_indication_confirmation a
call_of (call.WaitIndicationConfirmation a) = on_link wait_indication_confirmation a
call_of call.TotalLost = total_lost_call
call_of (call.WithdrawDisconnect a) = on_link withdraw_disconnect a
call_of (call.NegotiateAttMtu a b) = on_link (negotiate_att_mtu b) a
call_of (call.GetStoredAttMtu a) = on_link get_stored_att_mtu a
call_of (call.PollRequestFromPool a b) = poll_request_from_pool_call a b
call_of (call.PoolConfirmSent a b) = pool_confirm_sent_call a b
call_of (call.PoolGrantEnd a) = pool_grant_end_call a

abbrev pub call_reply : CallAnswer → Reply
call_reply (answer.Connect r) = reply_of no_value r
call_reply (answer.PollAccept r) = reply_of one_value r
call_reply (answer.GetConnectedHandle r) = reply_of one_value r
call_reply (answer.GetConnectionByPeerAddress r) = reply_of one_value r
call_reply (answer.IncRef r) = reply_of no_value r
call_reply (answer.DecRef r) = reply_of no_value r
call_reply (answer.RequestDisconnect r) = reply_of no_value r
call_reply (answer.RequestHandleDisconnect r) = reply_of no_value r
call_reply (answer.PollDisconnecting r) = reply_of ticket_values r
call_reply (answer.Confirm r) = reply_of ended_values r
call_reply (answer.Disconnected r) = reply_of no_value r
call_reply (answer.PostHandleEvent r) = reply_of no_value r
call_reply (answer.Next r) = reply_of event_values r
call_reply (answer.PollAcquireAclSendLock r) = reply_of lock_values r
call_reply (answer.UnlockAclSend r) = reply_of ended_values r
call_reply (answer.PollRequestToSend r) = reply_of grant_values r
call_reply (answer.GrantEnd r) = reply_of ended_values r
call_reply (answer.ConfirmSent r) = reply_of no_value r
call_reply (answer.SetLinkCredits r) = reply_of no_value r
call_reply (answer.HasLinkCredits r) = reply_of bit_values r
call_reply (answer.ExchangeAttMtu r) = reply_of one_value r
call_reply (answer.GetAttMtuHandle r) = reply_of one_value r
call_reply (answer.AcquireIndicationSlot r) = reply_of no_value r
call_reply (answer.ReleaseIndicationSlot r) = reply_of no_value r
call_reply (answer.SignalIndicationConfirmation r) = reply_of no_value r
call_reply (answer.WaitIndicationConfirmation r) = reply_of no_value r
call_reply (answer.TotalLost r) = reply_of one_value r
call_reply (answer.WithdrawDisconnect r) = reply_of no_value r
call_reply (answer.NegotiateAttMtu r) = reply_of one_value r
call_reply (answer.GetStoredAttMtu r) = reply_of one_value r
call_reply (answer.PollRequestFromPool r) = reply_of pool_grant_values r
call_reply (answer.PoolConfirmSent r) = reply_of no_value r
call_reply (answer.PoolGrantEnd r) = reply_of ended_values r

abbrev pub call_outcome : CallOutcome → Outcome
call_outcome r = record { reply = call_reply r.answer; woken = r.woken; table = r.table }

-- on a lent table, which is this one afterwards
abbrev pub call_look : CallLook → ConnectionManager → Outcome
call_look r t = record { reply = call_reply r.answer; woken = r.woken; table = t }

-- which call it is; several calls give the same replies, so `call_reply` does not tell their answers apart
abbrev pub call_kind : Call → ℕ
call_kind (call.Connect a) = 0
call_kind (call.PollAccept a) = 1
call_kind (call.GetConnectedHandle a) = 2
call_kind (call.GetConnectionByPeerAddress a) = 3
call_kind (call.IncRef a) = 4
call_kind (call.DecRef a) = 5
call_kind (call.RequestDisconnect a b) = 6
call_kind (call.RequestHandleDisconnect a b) = 7
call_kind call.PollDisconnecting = 8
call_kind (call.Confirm a) = 9
call_kind (call.Disconnected a b) = 10
call_kind (call.PostHandleEvent a b) = 11
call_kind (call.Next a) = 12
call_kind (call.PollAcquireAclSendLock a) = 13
call_kind (call.UnlockAclSend a) = 14
call_kind (call.PollRequestToSend a b) = 15
call_kind (call.GrantEnd a) = 16
call_kind (call.ConfirmSent a b) = 17
call_kind (call.SetLinkCredits a) = 18
call_kind (call.HasLinkCredits a b) = 19
call_kind (call.ExchangeAttMtu a b) = 20
call_kind (call.GetAttMtuHandle a) = 21
call_kind (call.AcquireIndicationSlot a) = 22
call_kind (call.ReleaseIndicationSlot a) = 23
call_kind (call.SignalIndicationConfirmation a) = 24
call_kind (call.WaitIndicationConfirmation a) = 25
call_kind call.TotalLost = 26
call_kind (call.WithdrawDisconnect a) = 27
call_kind (call.NegotiateAttMtu a b) = 28
call_kind (call.GetStoredAttMtu a) = 29
call_kind (call.PollRequestFromPool a b) = 30
call_kind (call.PoolConfirmSent a b) = 31
call_kind (call.PoolGrantEnd a) = 32

-- which call's answer it is
abbrev pub answer_kind : CallAnswer → ℕ
answer_kind (answer.Connect r) = 0
answer_kind (answer.PollAccept r) = 1
answer_kind (answer.GetConnectedHandle r) = 2
answer_kind (answer.GetConnectionByPeerAddress r) = 3
answer_kind (answer.IncRef r) = 4
answer_kind (answer.DecRef r) = 5
answer_kind (answer.RequestDisconnect r) = 6
answer_kind (answer.RequestHandleDisconnect r) = 7
answer_kind (answer.PollDisconnecting r) = 8
answer_kind (answer.Confirm r) = 9
answer_kind (answer.Disconnected r) = 10
answer_kind (answer.PostHandleEvent r) = 11
answer_kind (answer.Next r) = 12
answer_kind (answer.PollAcquireAclSendLock r) = 13
answer_kind (answer.UnlockAclSend r) = 14
answer_kind (answer.PollRequestToSend r) = 15
answer_kind (answer.GrantEnd r) = 16
answer_kind (answer.ConfirmSent r) = 17
answer_kind (answer.SetLinkCredits r) = 18
answer_kind (answer.HasLinkCredits r) = 19
answer_kind (answer.ExchangeAttMtu r) = 20
answer_kind (answer.GetAttMtuHandle r) = 21
answer_kind (answer.AcquireIndicationSlot r) = 22
answer_kind (answer.ReleaseIndicationSlot r) = 23
answer_kind (answer.SignalIndicationConfirmation r) = 24
answer_kind (answer.WaitIndicationConfirmation r) = 25
answer_kind (answer.TotalLost r) = 26
answer_kind (answer.WithdrawDisconnect r) = 27
answer_kind (answer.NegotiateAttMtu r) = 28
answer_kind (answer.GetStoredAttMtu r) = 29
answer_kind (answer.PollRequestFromPool r) = 30
answer_kind (answer.PoolConfirmSent r) = 31
answer_kind (answer.PoolGrantEnd r) = 32
