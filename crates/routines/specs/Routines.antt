-- Demand 1: every public function of every library takes every argument that its types hold, and its routine ends on it, as its
-- contract says, in every program that has its code. `Returns` (crates/machine) says what that is; `Met.met` is the checker's
-- theorem. Made by tools/routines. Assumes nothing.
use Rattle.std.specs.Prelude.{refl}
use Rattle.machine.specs.Returns.{Everywhere, returns}
use Rattle.refusal.specs.contracts as refusal'
use Rattle.refusal.proofs as refusal
use Rattle.state.specs.contracts as state'
use Rattle.state.proofs as state
use Rattle.event_queue.specs.contracts as event_queue'
use Rattle.event_queue.proofs as event_queue
use Rattle.turn.specs.contracts as turn'
use Rattle.turn.proofs as turn
use Rattle.pool.specs.contracts as pool'
use Rattle.pool.proofs as pool
use Rattle.slot.specs.contracts as slot'
use Rattle.slot.proofs as slot
use Rattle.rule.specs.contracts as rule'
use Rattle.rule.proofs as rule
use Rattle.search.specs.contracts as search'
use Rattle.search.proofs as search
use Rattle.table.specs.contracts as table'
use Rattle.table.proofs as table
use Rattle.slot_call.specs.contracts as slot_call'
use Rattle.slot_call.proofs as slot_call
use Rattle.inc_ref.specs.contracts as inc_ref'
use Rattle.inc_ref.proofs as inc_ref
use Rattle.dec_ref.specs.contracts as dec_ref'
use Rattle.dec_ref.proofs as dec_ref
use Rattle.connect.specs.contracts as connect'
use Rattle.connect.proofs as connect
use Rattle.lookup.specs.contracts as lookup'
use Rattle.lookup.proofs as lookup
use Rattle.accept.specs.contracts as accept'
use Rattle.accept.proofs as accept
use Rattle.accept_sixteen.specs.contracts as accept_sixteen'
use Rattle.accept_sixteen.proofs as accept_sixteen
use Rattle.packet_grant.specs.contracts as packet_grant'
use Rattle.packet_grant.proofs as packet_grant
use Rattle.request_disconnect.specs.contracts as request_disconnect'
use Rattle.request_disconnect.proofs as request_disconnect
use Rattle.poll_disconnecting.specs.contracts as poll_disconnecting'
use Rattle.poll_disconnecting.proofs as poll_disconnecting
use Rattle.withdraw_disconnect.specs.contracts as withdraw_disconnect'
use Rattle.withdraw_disconnect.proofs as withdraw_disconnect
use Rattle.confirm.specs.contracts as confirm'
use Rattle.confirm.proofs as confirm
use Rattle.disconnected.specs.contracts as disconnected'
use Rattle.disconnected.proofs as disconnected
use Rattle.att_mtu.specs.contracts as att_mtu'
use Rattle.att_mtu.proofs as att_mtu
use Rattle.negotiated_mtu.specs.contracts as negotiated_mtu'
use Rattle.negotiated_mtu.proofs as negotiated_mtu
use Rattle.signal_indication_confirmation.specs.contracts as signal_indication_confirmation'
use Rattle.signal_indication_confirmation.proofs as signal_indication_confirmation
use Rattle.wait_indication_confirmation.specs.contracts as wait_indication_confirmation'
use Rattle.wait_indication_confirmation.proofs as wait_indication_confirmation
use Rattle.post_handle_event.specs.contracts as post_handle_event'
use Rattle.post_handle_event.proofs as post_handle_event
use Rattle.next.specs.contracts as next'
use Rattle.next.proofs as next
use Rattle.acquire_indication_slot.specs.contracts as acquire_indication_slot'
use Rattle.acquire_indication_slot.proofs as acquire_indication_slot
use Rattle.release_indication_slot.specs.contracts as release_indication_slot'
use Rattle.release_indication_slot.proofs as release_indication_slot
use Rattle.all_credits.specs.contracts as all_credits'
use Rattle.all_credits.proofs as all_credits
use Rattle.total_lost.specs.contracts as total_lost'
use Rattle.total_lost.proofs as total_lost
use Rattle.confirm_sent.specs.contracts as confirm_sent'
use Rattle.confirm_sent.proofs as confirm_sent
use Rattle.has_link_credits.specs.contracts as has_link_credits'
use Rattle.has_link_credits.proofs as has_link_credits
use Rattle.poll_request_to_send.specs.contracts as poll_request_to_send'
use Rattle.poll_request_to_send.proofs as poll_request_to_send
use Rattle.grant_end.specs.contracts as grant_end'
use Rattle.grant_end.proofs as grant_end
use Rattle.poll_acquire_acl_send_lock.specs.contracts as poll_acquire_acl_send_lock'
use Rattle.poll_acquire_acl_send_lock.proofs as poll_acquire_acl_send_lock
use Rattle.unlock_acl_send.specs.contracts as unlock_acl_send'
use Rattle.unlock_acl_send.proofs as unlock_acl_send
use Rattle.poll_request_from_pool.specs.contracts as poll_request_from_pool'
use Rattle.poll_request_from_pool.proofs as poll_request_from_pool
use Rattle.pool_returns.specs.contracts as pool_returns'
use Rattle.pool_returns.proofs as pool_returns
use Rattle.calls.specs.contracts as calls'
use Rattle.calls.proofs as calls
use Rattle.peer_records.specs.contracts as peer_records'
use Rattle.peer_records.proofs as peer_records
use Rattle.accept_recorded.specs.contracts as accept_recorded'
use Rattle.accept_recorded.proofs as accept_recorded
use Rattle.limits.specs.contracts as limits'
use Rattle.limits.proofs as limits
use Rattle.wire.specs.contracts as wire'
use Rattle.wire.proofs as wire
use Rattle.hci.specs.contracts as hci'
use Rattle.hci.proofs as hci
use Rattle.hci_read.specs.contracts as hci_read'
use Rattle.hci_read.proofs as hci_read
use Rattle.hci_write.specs.contracts as hci_write'
use Rattle.hci_write.proofs as hci_write
use Rattle.completed_packets.specs.contracts as completed_packets'
use Rattle.completed_packets.proofs as completed_packets
use Rattle.completed_packets_write.specs.contracts as completed_packets_write'
use Rattle.completed_packets_write.proofs as completed_packets_write
use Rattle.att_pdu.specs.contracts as att_pdu'
use Rattle.att_pdu.proofs as att_pdu
use Rattle.att_pdu_write.specs.contracts as att_pdu_write'
use Rattle.att_pdu_write.proofs as att_pdu_write
use Rattle.woken_set.specs.contracts as woken_set'
use Rattle.woken_set.proofs as woken_set
use Rattle.received.specs.contracts as received'
use Rattle.received.proofs as received
use Rattle.host_event.specs.contracts as host_event'
use Rattle.host_event.proofs as host_event
use Rattle.host_pairs.specs.contracts as host_pairs'
use Rattle.host_pairs.proofs as host_pairs
use Rattle.host.specs.contracts as host'
use Rattle.host.proofs as host
use Rattle.host_att.specs.contracts as host_att'
use Rattle.host_att.proofs as host_att
use Rattle.roster.specs.contracts as roster'
use Rattle.roster.proofs as roster
use Rattle.big_endian.specs.contracts as big_endian'
use Rattle.big_endian.proofs as big_endian
use Rattle.big_endian_write.specs.contracts as big_endian_write'
use Rattle.big_endian_write.proofs as big_endian_write
use Rattle.btsnoop_read.specs.contracts as btsnoop_read'
use Rattle.btsnoop_read.proofs as btsnoop_read
use Rattle.btsnoop_put.specs.contracts as btsnoop_put'
use Rattle.btsnoop_put.proofs as btsnoop_put
use Rattle.btsnoop_write.specs.contracts as btsnoop_write'
use Rattle.btsnoop_write.proofs as btsnoop_write
use Rattle.btsnoop_measure.specs.contracts as btsnoop_measure'
use Rattle.btsnoop_measure.proofs as btsnoop_measure
use Rattle.to_columns.specs.contracts as to_columns'
use Rattle.to_columns.proofs as to_columns
use Rattle.from_columns.specs.contracts as from_columns'
use Rattle.from_columns.proofs as from_columns
use Rattle.host_record.specs.contracts as host_record'
use Rattle.host_record.proofs as host_record
use Rattle.host_recording.specs.contracts as host_recording'
use Rattle.host_recording.proofs as host_recording
use Rattle.text.specs.contracts as text'
use Rattle.text.proofs as text
use Rattle.text_read.specs.contracts as text_read'
use Rattle.text_read.proofs as text_read
use Rattle.number_text.specs.contracts as number_text'
use Rattle.number_text.proofs as number_text
use Rattle.woken_text.specs.contracts as woken_text'
use Rattle.woken_text.proofs as woken_text
use Rattle.event_text.specs.contracts as event_text'
use Rattle.event_text.proofs as event_text
use Rattle.slot_text.specs.contracts as slot_text'
use Rattle.slot_text.proofs as slot_text
use Rattle.table_text.specs.contracts as table_text'
use Rattle.table_text.proofs as table_text
use Rattle.program_io.specs.contracts as program_io'
use Rattle.program_io.proofs as program_io

pub «refusal::U8FromRefusal::from» : Everywhere refusal'.U8FromRefusal.from.signature (λ 𝓤. refusal'.U8FromRefusal.from.spec) refusal.U8FromRefusal.from.Symbol.code refusal.U8FromRefusal.from.Symbol.name
«refusal::U8FromRefusal::from» = returns refusal.U8FromRefusal.from.Symbol.code (λ κs a. (tt, refl)) refusal.U8FromRefusal.from.Met.met

pub «refusal::RefusalPartialEq::eq» : Everywhere refusal'.RefusalPartialEq.eq.signature (λ 𝓤. refusal'.RefusalPartialEq.eq.spec) refusal.RefusalPartialEq.eq.Symbol.code refusal.RefusalPartialEq.eq.Symbol.name
«refusal::RefusalPartialEq::eq» = returns refusal.RefusalPartialEq.eq.Symbol.code (λ κs a. (tt, refl)) refusal.RefusalPartialEq.eq.Met.met

pub «state::ConnectionState::is_live» : Everywhere state'.ConnectionState.is_live.signature (λ 𝓤. state'.ConnectionState.is_live.spec) state.ConnectionState.is_live.Symbol.code state.ConnectionState.is_live.Symbol.name
«state::ConnectionState::is_live» = returns state.ConnectionState.is_live.Symbol.code (λ κs a. (tt, refl)) state.ConnectionState.is_live.Met.met

pub «state::ConnectionState::is_connected» : Everywhere state'.ConnectionState.is_connected.signature (λ 𝓤. state'.ConnectionState.is_connected.spec) state.ConnectionState.is_connected.Symbol.code state.ConnectionState.is_connected.Symbol.name
«state::ConnectionState::is_connected» = returns state.ConnectionState.is_connected.Symbol.code (λ κs a. (tt, refl)) state.ConnectionState.is_connected.Met.met

pub «state::ConnectionState::is_open» : Everywhere state'.ConnectionState.is_open.signature (λ 𝓤. state'.ConnectionState.is_open.spec) state.ConnectionState.is_open.Symbol.code state.ConnectionState.is_open.Symbol.name
«state::ConnectionState::is_open» = returns state.ConnectionState.is_open.Symbol.code (λ κs a. (tt, refl)) state.ConnectionState.is_open.Met.met

pub «state::ConnectionState::is_requesting» : Everywhere state'.ConnectionState.is_requesting.signature (λ 𝓤. state'.ConnectionState.is_requesting.spec) state.ConnectionState.is_requesting.Symbol.code state.ConnectionState.is_requesting.Symbol.name
«state::ConnectionState::is_requesting» = returns state.ConnectionState.is_requesting.Symbol.code (λ κs a. (tt, refl)) state.ConnectionState.is_requesting.Met.met

pub «state::ConnectionState::is_connecting» : Everywhere state'.ConnectionState.is_connecting.signature (λ 𝓤. state'.ConnectionState.is_connecting.spec) state.ConnectionState.is_connecting.Symbol.code state.ConnectionState.is_connecting.Symbol.name
«state::ConnectionState::is_connecting» = returns state.ConnectionState.is_connecting.Symbol.code (λ κs a. (tt, refl)) state.ConnectionState.is_connecting.Met.met

pub «state::U8FromDisconnectReason::from» : Everywhere state'.U8FromDisconnectReason.from.signature (λ 𝓤. state'.U8FromDisconnectReason.from.spec) state.U8FromDisconnectReason.from.Symbol.code state.U8FromDisconnectReason.from.Symbol.name
«state::U8FromDisconnectReason::from» = returns state.U8FromDisconnectReason.from.Symbol.code (λ κs a. (tt, refl)) state.U8FromDisconnectReason.from.Met.met

pub «event_queue::EventQueue::new» : Everywhere event_queue'.EventQueue.new.signature (λ 𝓤. event_queue'.EventQueue.new.spec) event_queue.EventQueue.new.Symbol.code event_queue.EventQueue.new.Symbol.name
«event_queue::EventQueue::new» = returns event_queue.EventQueue.new.Symbol.code (λ κs a. (tt, refl)) event_queue.EventQueue.new.Met.met

pub «event_queue::EventQueue::push» : Everywhere event_queue'.EventQueue.push.signature (λ 𝓤. event_queue'.EventQueue.push.spec) event_queue.EventQueue.push.Symbol.code event_queue.EventQueue.push.Symbol.name
«event_queue::EventQueue::push» = returns event_queue.EventQueue.push.Symbol.code (λ κs a. (tt, refl)) event_queue.EventQueue.push.Met.met

pub «event_queue::EventQueue::pop» : Everywhere event_queue'.EventQueue.pop.signature (λ 𝓤. event_queue'.EventQueue.pop.spec) event_queue.EventQueue.pop.Symbol.code event_queue.EventQueue.pop.Symbol.name
«event_queue::EventQueue::pop» = returns event_queue.EventQueue.pop.Symbol.code (λ κs a. (tt, refl)) event_queue.EventQueue.pop.Met.met

pub «event_queue::U8FromPhyKind::from» : Everywhere event_queue'.U8FromPhyKind.from.signature (λ 𝓤. event_queue'.U8FromPhyKind.from.spec) event_queue.U8FromPhyKind.from.Symbol.code event_queue.U8FromPhyKind.from.Symbol.name
«event_queue::U8FromPhyKind::from» = returns event_queue.U8FromPhyKind.from.Symbol.code (λ κs a. (tt, refl)) event_queue.U8FromPhyKind.from.Met.met

pub «turn::next_waiting» : Everywhere turn'.next_waiting.signature (λ 𝓤. turn'.next_waiting.spec) turn.next_waiting.Symbol.code turn.next_waiting.Symbol.name
«turn::next_waiting» = returns turn.next_waiting.Symbol.code (λ κs a. (tt, refl)) turn.next_waiting.Met.met

pub «turn::with_wait» : Everywhere turn'.with_wait.signature (λ 𝓤. turn'.with_wait.spec) turn.with_wait.Symbol.code turn.with_wait.Symbol.name
«turn::with_wait» = returns turn.with_wait.Symbol.code (λ κs a. (tt, refl)) turn.with_wait.Met.met

pub «turn::without_wait» : Everywhere turn'.without_wait.signature (λ 𝓤. turn'.without_wait.spec) turn.without_wait.Symbol.code turn.without_wait.Symbol.name
«turn::without_wait» = returns turn.without_wait.Symbol.code (λ κs a. (tt, refl)) turn.without_wait.Met.met

pub «pool::may_draw» : Everywhere pool'.may_draw.signature (λ 𝓤. pool'.may_draw.spec) pool.may_draw.Symbol.code pool.may_draw.Symbol.name
«pool::may_draw» = returns pool.may_draw.Symbol.code (λ κs a. (tt, refl)) pool.may_draw.Met.met

pub «pool::shared» : Everywhere pool'.shared.signature (λ 𝓤. pool'.shared.spec) pool.shared.Symbol.code pool.shared.Symbol.name
«pool::shared» = returns pool.shared.Symbol.code (λ κs a. (tt, refl)) pool.shared.Met.met

pub «pool::fits_slots» : Everywhere pool'.fits_slots.signature (λ 𝓤. pool'.fits_slots.spec) pool.fits_slots.Symbol.code pool.fits_slots.Symbol.name
«pool::fits_slots» = returns pool.fits_slots.Symbol.code (λ κs a. (tt, refl)) pool.fits_slots.Met.met

pub «slot::ConnectionStorage::new» : Everywhere slot'.ConnectionStorage.new.signature (λ 𝓤. slot'.ConnectionStorage.new.spec) slot.ConnectionStorage.new.Symbol.code slot.ConnectionStorage.new.Symbol.name
«slot::ConnectionStorage::new» = returns slot.ConnectionStorage.new.Symbol.code (λ κs a. (tt, refl)) slot.ConnectionStorage.new.Met.met

pub «slot::ConnectionStorage::with_state» : Everywhere slot'.ConnectionStorage.with_state.signature (λ 𝓤. slot'.ConnectionStorage.with_state.spec) slot.ConnectionStorage.with_state.Symbol.code slot.ConnectionStorage.with_state.Symbol.name
«slot::ConnectionStorage::with_state» = returns slot.ConnectionStorage.with_state.Symbol.code (λ κs a. (tt, refl)) slot.ConnectionStorage.with_state.Met.met

pub «slot::ConnectionStorage::with_subrating_params» : Everywhere slot'.ConnectionStorage.with_subrating_params.signature (λ 𝓤. slot'.ConnectionStorage.with_subrating_params.spec) slot.ConnectionStorage.with_subrating_params.Symbol.code slot.ConnectionStorage.with_subrating_params.Symbol.name
«slot::ConnectionStorage::with_subrating_params» = returns slot.ConnectionStorage.with_subrating_params.Symbol.code (λ κs a. (tt, refl)) slot.ConnectionStorage.with_subrating_params.Met.met

pub «slot::U8FromLeConnRole::from» : Everywhere slot'.U8FromLeConnRole.from.signature (λ 𝓤. slot'.U8FromLeConnRole.from.spec) slot.U8FromLeConnRole.from.Symbol.code slot.U8FromLeConnRole.from.Symbol.name
«slot::U8FromLeConnRole::from» = returns slot.U8FromLeConnRole.from.Symbol.code (λ κs a. (tt, refl)) slot.U8FromLeConnRole.from.Met.met

pub «slot::LeConnRolePartialEq::eq» : Everywhere slot'.LeConnRolePartialEq.eq.signature (λ 𝓤. slot'.LeConnRolePartialEq.eq.spec) slot.LeConnRolePartialEq.eq.Symbol.code slot.LeConnRolePartialEq.eq.Symbol.name
«slot::LeConnRolePartialEq::eq» = returns slot.LeConnRolePartialEq.eq.Symbol.code (λ κs a. (tt, refl)) slot.LeConnRolePartialEq.eq.Met.met

pub «rule::same_address» : Everywhere rule'.same_address.signature (λ 𝓤. rule'.same_address.spec) rule.same_address.Symbol.code rule.same_address.Symbol.name
«rule::same_address» = returns rule.same_address.Symbol.code (λ κs a. (tt, refl)) rule.same_address.Met.met

pub «rule::fits» : Everywhere rule'.fits.signature (λ 𝓤. rule'.fits.spec) rule.fits.Symbol.code rule.fits.Symbol.name
«rule::fits» = returns rule.fits.Symbol.code (λ κs a. (tt, refl)) rule.fits.Met.met

pub «search::begin» : Everywhere search'.begin.signature (λ 𝓤. search'.begin.spec) search.begin.Symbol.code search.begin.Symbol.name
«search::begin» = returns search.begin.Symbol.code (λ κs a. (tt, refl)) search.begin.Met.met

pub «search::see» : Everywhere search'.see.signature (λ 𝓤. search'.see.spec) search.see.Symbol.code search.see.Symbol.name
«search::see» = returns search.see.Symbol.code (λ κs a. (tt, refl)) search.see.Met.met

pub «search::end» : Everywhere search'.end.signature (λ 𝓤. search'.end.spec) search.end.Symbol.code search.end.Symbol.name
«search::end» = returns search.end.Symbol.code (λ κs a. (tt, refl)) search.end.Met.met

pub «search::find» : Everywhere search'.find.signature (λ 𝓤. search'.find.spec) search.find.Symbol.code search.find.Symbol.name
«search::find» = returns search.find.Symbol.code (λ κs a. (tt, refl)) search.find.Met.met

pub «search::locate» : Everywhere search'.locate.signature (λ 𝓤. search'.locate.spec) search.locate.Symbol.code search.locate.Symbol.name
«search::locate» = returns search.locate.Symbol.code (λ κs a. (tt, refl)) search.locate.Met.met

pub «search::is_well_formed» : Everywhere search'.is_well_formed.signature (λ 𝓤. search'.is_well_formed.spec) search.is_well_formed.Symbol.code search.is_well_formed.Symbol.name
«search::is_well_formed» = returns search.is_well_formed.Symbol.code (λ κs a. (tt, refl)) search.is_well_formed.Met.met

pub «table::put_shared» : Everywhere table'.put_shared.signature (λ 𝓤. table'.put_shared.spec) table.put_shared.Symbol.code table.put_shared.Symbol.name
«table::put_shared» = returns table.put_shared.Symbol.code (λ κs a. (tt, refl)) table.put_shared.Met.met

pub «table::new» : Everywhere table'.new.signature (λ 𝓤. table'.new.spec) table.new.Symbol.code table.new.Symbol.name
«table::new» = returns table.new.Symbol.code (λ κs a. (tt, refl)) table.new.Met.met

pub «slot_call::view» : Everywhere slot_call'.view.signature (λ 𝓤. slot_call'.view.spec) slot_call.view.Symbol.code slot_call.view.Symbol.name
«slot_call::view» = returns slot_call.view.Symbol.code (λ κs a. (tt, refl)) slot_call.view.Met.met

pub «inc_ref::inc_ref» : Everywhere inc_ref'.inc_ref.signature (λ 𝓤. inc_ref'.inc_ref.spec) inc_ref.inc_ref.Symbol.code inc_ref.inc_ref.Symbol.name
«inc_ref::inc_ref» = returns inc_ref.inc_ref.Symbol.code (λ κs a. (tt, refl)) inc_ref.inc_ref.Met.met

pub «inc_ref::IncRefCallSlotCall::rule» : Everywhere inc_ref'.IncRefCallSlotCall.rule.signature (λ 𝓤. inc_ref'.IncRefCallSlotCall.rule.spec) inc_ref.IncRefCallSlotCall.rule.Symbol.code inc_ref.IncRefCallSlotCall.rule.Symbol.name
«inc_ref::IncRefCallSlotCall::rule» = returns inc_ref.IncRefCallSlotCall.rule.Symbol.code (λ κs a. (tt, refl)) inc_ref.IncRefCallSlotCall.rule.Met.met

pub «inc_ref::IncRefCallSlotCall::absent» : Everywhere inc_ref'.IncRefCallSlotCall.absent.signature (λ 𝓤. inc_ref'.IncRefCallSlotCall.absent.spec) inc_ref.IncRefCallSlotCall.absent.Symbol.code inc_ref.IncRefCallSlotCall.absent.Symbol.name
«inc_ref::IncRefCallSlotCall::absent» = returns inc_ref.IncRefCallSlotCall.absent.Symbol.code (λ κs a. (tt, refl)) inc_ref.IncRefCallSlotCall.absent.Met.met

pub «inc_ref::IncRefCallSlotCall::at» : Everywhere inc_ref'.IncRefCallSlotCall.at.signature (λ 𝓤. inc_ref'.IncRefCallSlotCall.at.spec) inc_ref.IncRefCallSlotCall.at.Symbol.code inc_ref.IncRefCallSlotCall.at.Symbol.name
«inc_ref::IncRefCallSlotCall::at» = returns inc_ref.IncRefCallSlotCall.at.Symbol.code (λ κs a. (tt, refl)) inc_ref.IncRefCallSlotCall.at.Met.met

pub «dec_ref::dec_ref» : Everywhere dec_ref'.dec_ref.signature (λ 𝓤. dec_ref'.dec_ref.spec) dec_ref.dec_ref.Symbol.code dec_ref.dec_ref.Symbol.name
«dec_ref::dec_ref» = returns dec_ref.dec_ref.Symbol.code (λ κs a. (tt, refl)) dec_ref.dec_ref.Met.met

pub «dec_ref::DecRefCallSlotCall::rule» : Everywhere dec_ref'.DecRefCallSlotCall.rule.signature (λ 𝓤. dec_ref'.DecRefCallSlotCall.rule.spec) dec_ref.DecRefCallSlotCall.rule.Symbol.code dec_ref.DecRefCallSlotCall.rule.Symbol.name
«dec_ref::DecRefCallSlotCall::rule» = returns dec_ref.DecRefCallSlotCall.rule.Symbol.code (λ κs a. (tt, refl)) dec_ref.DecRefCallSlotCall.rule.Met.met

pub «dec_ref::DecRefCallSlotCall::absent» : Everywhere dec_ref'.DecRefCallSlotCall.absent.signature (λ 𝓤. dec_ref'.DecRefCallSlotCall.absent.spec) dec_ref.DecRefCallSlotCall.absent.Symbol.code dec_ref.DecRefCallSlotCall.absent.Symbol.name
«dec_ref::DecRefCallSlotCall::absent» = returns dec_ref.DecRefCallSlotCall.absent.Symbol.code (λ κs a. (tt, refl)) dec_ref.DecRefCallSlotCall.absent.Met.met

pub «dec_ref::DecRefCallSlotCall::at» : Everywhere dec_ref'.DecRefCallSlotCall.at.signature (λ 𝓤. dec_ref'.DecRefCallSlotCall.at.spec) dec_ref.DecRefCallSlotCall.at.Symbol.code dec_ref.DecRefCallSlotCall.at.Symbol.name
«dec_ref::DecRefCallSlotCall::at» = returns dec_ref.DecRefCallSlotCall.at.Symbol.code (λ κs a. (tt, refl)) dec_ref.DecRefCallSlotCall.at.Met.met

pub «connect::connect» : Everywhere connect'.connect.signature (λ 𝓤. connect'.connect.spec) connect.connect.Symbol.code connect.connect.Symbol.name
«connect::connect» = returns connect.connect.Symbol.code (λ κs a. (tt, refl)) connect.connect.Met.met

pub «connect::ConnectCallSlotCall::rule» : Everywhere connect'.ConnectCallSlotCall.rule.signature (λ 𝓤. connect'.ConnectCallSlotCall.rule.spec) connect.ConnectCallSlotCall.rule.Symbol.code connect.ConnectCallSlotCall.rule.Symbol.name
«connect::ConnectCallSlotCall::rule» = returns connect.ConnectCallSlotCall.rule.Symbol.code (λ κs a. (tt, refl)) connect.ConnectCallSlotCall.rule.Met.met

pub «connect::ConnectCallSlotCall::absent» : Everywhere connect'.ConnectCallSlotCall.absent.signature (λ 𝓤. connect'.ConnectCallSlotCall.absent.spec) connect.ConnectCallSlotCall.absent.Symbol.code connect.ConnectCallSlotCall.absent.Symbol.name
«connect::ConnectCallSlotCall::absent» = returns connect.ConnectCallSlotCall.absent.Symbol.code (λ κs a. (tt, refl)) connect.ConnectCallSlotCall.absent.Met.met

pub «connect::ConnectCallSlotCall::at» : Everywhere connect'.ConnectCallSlotCall.at.signature (λ 𝓤. connect'.ConnectCallSlotCall.at.spec) connect.ConnectCallSlotCall.at.Symbol.code connect.ConnectCallSlotCall.at.Symbol.name
«connect::ConnectCallSlotCall::at» = returns connect.ConnectCallSlotCall.at.Symbol.code (λ κs a. (tt, refl)) connect.ConnectCallSlotCall.at.Met.met

pub «lookup::get_connected_handle» : Everywhere lookup'.get_connected_handle.signature (λ 𝓤. lookup'.get_connected_handle.spec) lookup.get_connected_handle.Symbol.code lookup.get_connected_handle.Symbol.name
«lookup::get_connected_handle» = returns lookup.get_connected_handle.Symbol.code (λ κs a. (tt, refl)) lookup.get_connected_handle.Met.met

pub «lookup::get_connection_by_peer_address» : Everywhere lookup'.get_connection_by_peer_address.signature (λ 𝓤. lookup'.get_connection_by_peer_address.spec) lookup.get_connection_by_peer_address.Symbol.code lookup.get_connection_by_peer_address.Symbol.name
«lookup::get_connection_by_peer_address» = returns lookup.get_connection_by_peer_address.Symbol.code (λ κs a. (tt, refl)) lookup.get_connection_by_peer_address.Met.met

pub «lookup::GetConnectedHandleCallSlotCall::rule» : Everywhere lookup'.GetConnectedHandleCallSlotCall.rule.signature (λ 𝓤. lookup'.GetConnectedHandleCallSlotCall.rule.spec) lookup.GetConnectedHandleCallSlotCall.rule.Symbol.code lookup.GetConnectedHandleCallSlotCall.rule.Symbol.name
«lookup::GetConnectedHandleCallSlotCall::rule» = returns lookup.GetConnectedHandleCallSlotCall.rule.Symbol.code (λ κs a. (tt, refl)) lookup.GetConnectedHandleCallSlotCall.rule.Met.met

pub «lookup::GetConnectedHandleCallSlotCall::absent» : Everywhere lookup'.GetConnectedHandleCallSlotCall.absent.signature (λ 𝓤. lookup'.GetConnectedHandleCallSlotCall.absent.spec) lookup.GetConnectedHandleCallSlotCall.absent.Symbol.code lookup.GetConnectedHandleCallSlotCall.absent.Symbol.name
«lookup::GetConnectedHandleCallSlotCall::absent» = returns lookup.GetConnectedHandleCallSlotCall.absent.Symbol.code (λ κs a. (tt, refl)) lookup.GetConnectedHandleCallSlotCall.absent.Met.met

pub «lookup::GetConnectedHandleCallSlotCall::at» : Everywhere lookup'.GetConnectedHandleCallSlotCall.at.signature (λ 𝓤. lookup'.GetConnectedHandleCallSlotCall.at.spec) lookup.GetConnectedHandleCallSlotCall.at.Symbol.code lookup.GetConnectedHandleCallSlotCall.at.Symbol.name
«lookup::GetConnectedHandleCallSlotCall::at» = returns lookup.GetConnectedHandleCallSlotCall.at.Symbol.code (λ κs a. (tt, refl)) lookup.GetConnectedHandleCallSlotCall.at.Met.met

pub «lookup::GetConnectionByPeerAddressCallSlotCall::rule» : Everywhere lookup'.GetConnectionByPeerAddressCallSlotCall.rule.signature (λ 𝓤. lookup'.GetConnectionByPeerAddressCallSlotCall.rule.spec) lookup.GetConnectionByPeerAddressCallSlotCall.rule.Symbol.code lookup.GetConnectionByPeerAddressCallSlotCall.rule.Symbol.name
«lookup::GetConnectionByPeerAddressCallSlotCall::rule» = returns lookup.GetConnectionByPeerAddressCallSlotCall.rule.Symbol.code (λ κs a. (tt, refl)) lookup.GetConnectionByPeerAddressCallSlotCall.rule.Met.met

pub «lookup::GetConnectionByPeerAddressCallSlotCall::absent» : Everywhere lookup'.GetConnectionByPeerAddressCallSlotCall.absent.signature (λ 𝓤. lookup'.GetConnectionByPeerAddressCallSlotCall.absent.spec) lookup.GetConnectionByPeerAddressCallSlotCall.absent.Symbol.code lookup.GetConnectionByPeerAddressCallSlotCall.absent.Symbol.name
«lookup::GetConnectionByPeerAddressCallSlotCall::absent» = returns lookup.GetConnectionByPeerAddressCallSlotCall.absent.Symbol.code (λ κs a. (tt, refl)) lookup.GetConnectionByPeerAddressCallSlotCall.absent.Met.met

pub «lookup::GetConnectionByPeerAddressCallSlotCall::at» : Everywhere lookup'.GetConnectionByPeerAddressCallSlotCall.at.signature (λ 𝓤. lookup'.GetConnectionByPeerAddressCallSlotCall.at.spec) lookup.GetConnectionByPeerAddressCallSlotCall.at.Symbol.code lookup.GetConnectionByPeerAddressCallSlotCall.at.Symbol.name
«lookup::GetConnectionByPeerAddressCallSlotCall::at» = returns lookup.GetConnectionByPeerAddressCallSlotCall.at.Symbol.code (λ κs a. (tt, refl)) lookup.GetConnectionByPeerAddressCallSlotCall.at.Met.met

pub «accept::poll_accept_any» : Everywhere accept'.poll_accept_any.signature (λ 𝓤. accept'.poll_accept_any.spec) accept.poll_accept_any.Symbol.code accept.poll_accept_any.Symbol.name
«accept::poll_accept_any» = returns accept.poll_accept_any.Symbol.code (λ κs a. (tt, refl)) accept.poll_accept_any.Met.met

pub «accept::accept_at» : Everywhere accept'.accept_at.signature (λ 𝓤. accept'.accept_at.spec) accept.accept_at.Symbol.code accept.accept_at.Symbol.name
«accept::accept_at» = returns accept.accept_at.Symbol.code (λ κs a. (tt, refl)) accept.accept_at.Met.met

pub «accept::poll_accept» : Everywhere accept'.poll_accept.signature (λ 𝓤. accept'.poll_accept.spec) accept.poll_accept.Symbol.code accept.poll_accept.Symbol.name
«accept::poll_accept» = returns accept.poll_accept.Symbol.code (λ κs a. (tt, refl)) accept.poll_accept.Met.met

pub «accept::poll_accept_listed» : Everywhere accept'.poll_accept_listed.signature (λ 𝓤. accept'.poll_accept_listed.spec) accept.poll_accept_listed.Symbol.code accept.poll_accept_listed.Symbol.name
«accept::poll_accept_listed» = returns accept.poll_accept_listed.Symbol.code (λ κs a. (tt, refl)) accept.poll_accept_listed.Met.met

pub «accept::PollAcceptAnyCallSlotCall::rule» : Everywhere accept'.PollAcceptAnyCallSlotCall.rule.signature (λ 𝓤. accept'.PollAcceptAnyCallSlotCall.rule.spec) accept.PollAcceptAnyCallSlotCall.rule.Symbol.code accept.PollAcceptAnyCallSlotCall.rule.Symbol.name
«accept::PollAcceptAnyCallSlotCall::rule» = returns accept.PollAcceptAnyCallSlotCall.rule.Symbol.code (λ κs a. (tt, refl)) accept.PollAcceptAnyCallSlotCall.rule.Met.met

pub «accept::PollAcceptAnyCallSlotCall::absent» : Everywhere accept'.PollAcceptAnyCallSlotCall.absent.signature (λ 𝓤. accept'.PollAcceptAnyCallSlotCall.absent.spec) accept.PollAcceptAnyCallSlotCall.absent.Symbol.code accept.PollAcceptAnyCallSlotCall.absent.Symbol.name
«accept::PollAcceptAnyCallSlotCall::absent» = returns accept.PollAcceptAnyCallSlotCall.absent.Symbol.code (λ κs a. (tt, refl)) accept.PollAcceptAnyCallSlotCall.absent.Met.met

pub «accept::PollAcceptAnyCallSlotCall::at» : Everywhere accept'.PollAcceptAnyCallSlotCall.at.signature (λ 𝓤. accept'.PollAcceptAnyCallSlotCall.at.spec) accept.PollAcceptAnyCallSlotCall.at.Symbol.code accept.PollAcceptAnyCallSlotCall.at.Symbol.name
«accept::PollAcceptAnyCallSlotCall::at» = returns accept.PollAcceptAnyCallSlotCall.at.Symbol.code (λ κs a. (tt, refl)) accept.PollAcceptAnyCallSlotCall.at.Met.met

pub «accept::ListedPeerSet::contains» : Everywhere accept'.ListedPeerSet.contains.signature (λ 𝓤. accept'.ListedPeerSet.contains.spec) accept.ListedPeerSet.contains.Symbol.code accept.ListedPeerSet.contains.Symbol.name
«accept::ListedPeerSet::contains» = returns accept.ListedPeerSet.contains.Symbol.code (λ κs a. (tt, refl)) accept.ListedPeerSet.contains.Met.met

pub «accept_sixteen::poll_accept_sixteen» : Everywhere accept_sixteen'.poll_accept_sixteen.signature (λ 𝓤. accept_sixteen'.poll_accept_sixteen.spec) accept_sixteen.poll_accept_sixteen.Symbol.code accept_sixteen.poll_accept_sixteen.Symbol.name
«accept_sixteen::poll_accept_sixteen» = returns accept_sixteen.poll_accept_sixteen.Symbol.code (λ κs a. (tt, refl)) accept_sixteen.poll_accept_sixteen.Met.met

pub «packet_grant::confirm» : Everywhere packet_grant'.confirm.signature (λ 𝓤. packet_grant'.confirm.spec) packet_grant.confirm.Symbol.code packet_grant.confirm.Symbol.name
«packet_grant::confirm» = returns packet_grant.confirm.Symbol.code (λ κs a. (tt, refl)) packet_grant.confirm.Met.met

pub «packet_grant::confirmed» : Everywhere packet_grant'.confirmed.signature (λ 𝓤. packet_grant'.confirmed.spec) packet_grant.confirmed.Symbol.code packet_grant.confirmed.Symbol.name
«packet_grant::confirmed» = returns packet_grant.confirmed.Symbol.code (λ κs a. (tt, refl)) packet_grant.confirmed.Met.met

pub «request_disconnect::request_disconnect» : Everywhere request_disconnect'.request_disconnect.signature (λ 𝓤. request_disconnect'.request_disconnect.spec) request_disconnect.request_disconnect.Symbol.code request_disconnect.request_disconnect.Symbol.name
«request_disconnect::request_disconnect» = returns request_disconnect.request_disconnect.Symbol.code (λ κs a. (tt, refl)) request_disconnect.request_disconnect.Met.met

pub «request_disconnect::request_handle_disconnect» : Everywhere request_disconnect'.request_handle_disconnect.signature (λ 𝓤. request_disconnect'.request_handle_disconnect.spec) request_disconnect.request_handle_disconnect.Symbol.code request_disconnect.request_handle_disconnect.Symbol.name
«request_disconnect::request_handle_disconnect» = returns request_disconnect.request_handle_disconnect.Symbol.code (λ κs a. (tt, refl)) request_disconnect.request_handle_disconnect.Met.met

pub «request_disconnect::RequestDisconnectCallSlotCall::rule» : Everywhere request_disconnect'.RequestDisconnectCallSlotCall.rule.signature (λ 𝓤. request_disconnect'.RequestDisconnectCallSlotCall.rule.spec) request_disconnect.RequestDisconnectCallSlotCall.rule.Symbol.code request_disconnect.RequestDisconnectCallSlotCall.rule.Symbol.name
«request_disconnect::RequestDisconnectCallSlotCall::rule» = returns request_disconnect.RequestDisconnectCallSlotCall.rule.Symbol.code (λ κs a. (tt, refl)) request_disconnect.RequestDisconnectCallSlotCall.rule.Met.met

pub «request_disconnect::RequestDisconnectCallSlotCall::absent» : Everywhere request_disconnect'.RequestDisconnectCallSlotCall.absent.signature (λ 𝓤. request_disconnect'.RequestDisconnectCallSlotCall.absent.spec) request_disconnect.RequestDisconnectCallSlotCall.absent.Symbol.code request_disconnect.RequestDisconnectCallSlotCall.absent.Symbol.name
«request_disconnect::RequestDisconnectCallSlotCall::absent» = returns request_disconnect.RequestDisconnectCallSlotCall.absent.Symbol.code (λ κs a. (tt, refl)) request_disconnect.RequestDisconnectCallSlotCall.absent.Met.met

pub «request_disconnect::RequestDisconnectCallSlotCall::at» : Everywhere request_disconnect'.RequestDisconnectCallSlotCall.at.signature (λ 𝓤. request_disconnect'.RequestDisconnectCallSlotCall.at.spec) request_disconnect.RequestDisconnectCallSlotCall.at.Symbol.code request_disconnect.RequestDisconnectCallSlotCall.at.Symbol.name
«request_disconnect::RequestDisconnectCallSlotCall::at» = returns request_disconnect.RequestDisconnectCallSlotCall.at.Symbol.code (λ κs a. (tt, refl)) request_disconnect.RequestDisconnectCallSlotCall.at.Met.met

pub «request_disconnect::RequestHandleDisconnectCallSlotCall::rule» : Everywhere request_disconnect'.RequestHandleDisconnectCallSlotCall.rule.signature (λ 𝓤. request_disconnect'.RequestHandleDisconnectCallSlotCall.rule.spec) request_disconnect.RequestHandleDisconnectCallSlotCall.rule.Symbol.code request_disconnect.RequestHandleDisconnectCallSlotCall.rule.Symbol.name
«request_disconnect::RequestHandleDisconnectCallSlotCall::rule» = returns request_disconnect.RequestHandleDisconnectCallSlotCall.rule.Symbol.code (λ κs a. (tt, refl)) request_disconnect.RequestHandleDisconnectCallSlotCall.rule.Met.met

pub «request_disconnect::RequestHandleDisconnectCallSlotCall::absent» : Everywhere request_disconnect'.RequestHandleDisconnectCallSlotCall.absent.signature (λ 𝓤. request_disconnect'.RequestHandleDisconnectCallSlotCall.absent.spec) request_disconnect.RequestHandleDisconnectCallSlotCall.absent.Symbol.code request_disconnect.RequestHandleDisconnectCallSlotCall.absent.Symbol.name
«request_disconnect::RequestHandleDisconnectCallSlotCall::absent» = returns request_disconnect.RequestHandleDisconnectCallSlotCall.absent.Symbol.code (λ κs a. (tt, refl)) request_disconnect.RequestHandleDisconnectCallSlotCall.absent.Met.met

pub «request_disconnect::RequestHandleDisconnectCallSlotCall::at» : Everywhere request_disconnect'.RequestHandleDisconnectCallSlotCall.at.signature (λ 𝓤. request_disconnect'.RequestHandleDisconnectCallSlotCall.at.spec) request_disconnect.RequestHandleDisconnectCallSlotCall.at.Symbol.code request_disconnect.RequestHandleDisconnectCallSlotCall.at.Symbol.name
«request_disconnect::RequestHandleDisconnectCallSlotCall::at» = returns request_disconnect.RequestHandleDisconnectCallSlotCall.at.Symbol.code (λ κs a. (tt, refl)) request_disconnect.RequestHandleDisconnectCallSlotCall.at.Met.met

pub «poll_disconnecting::poll_disconnecting» : Everywhere poll_disconnecting'.poll_disconnecting.signature (λ 𝓤. poll_disconnecting'.poll_disconnecting.spec) poll_disconnecting.poll_disconnecting.Symbol.code poll_disconnecting.poll_disconnecting.Symbol.name
«poll_disconnecting::poll_disconnecting» = returns poll_disconnecting.poll_disconnecting.Symbol.code (λ κs a. (tt, refl)) poll_disconnecting.poll_disconnecting.Met.met

pub «poll_disconnecting::PollDisconnectingCallSlotCall::rule» : Everywhere poll_disconnecting'.PollDisconnectingCallSlotCall.rule.signature (λ 𝓤. poll_disconnecting'.PollDisconnectingCallSlotCall.rule.spec) poll_disconnecting.PollDisconnectingCallSlotCall.rule.Symbol.code poll_disconnecting.PollDisconnectingCallSlotCall.rule.Symbol.name
«poll_disconnecting::PollDisconnectingCallSlotCall::rule» = returns poll_disconnecting.PollDisconnectingCallSlotCall.rule.Symbol.code (λ κs a. (tt, refl)) poll_disconnecting.PollDisconnectingCallSlotCall.rule.Met.met

pub «poll_disconnecting::PollDisconnectingCallSlotCall::absent» : Everywhere poll_disconnecting'.PollDisconnectingCallSlotCall.absent.signature (λ 𝓤. poll_disconnecting'.PollDisconnectingCallSlotCall.absent.spec) poll_disconnecting.PollDisconnectingCallSlotCall.absent.Symbol.code poll_disconnecting.PollDisconnectingCallSlotCall.absent.Symbol.name
«poll_disconnecting::PollDisconnectingCallSlotCall::absent» = returns poll_disconnecting.PollDisconnectingCallSlotCall.absent.Symbol.code (λ κs a. (tt, refl)) poll_disconnecting.PollDisconnectingCallSlotCall.absent.Met.met

pub «poll_disconnecting::PollDisconnectingCallSlotCall::at» : Everywhere poll_disconnecting'.PollDisconnectingCallSlotCall.at.signature (λ 𝓤. poll_disconnecting'.PollDisconnectingCallSlotCall.at.spec) poll_disconnecting.PollDisconnectingCallSlotCall.at.Symbol.code poll_disconnecting.PollDisconnectingCallSlotCall.at.Symbol.name
«poll_disconnecting::PollDisconnectingCallSlotCall::at» = returns poll_disconnecting.PollDisconnectingCallSlotCall.at.Symbol.code (λ κs a. (tt, refl)) poll_disconnecting.PollDisconnectingCallSlotCall.at.Met.met

pub «withdraw_disconnect::withdraw_disconnect» : Everywhere withdraw_disconnect'.withdraw_disconnect.signature (λ 𝓤. withdraw_disconnect'.withdraw_disconnect.spec) withdraw_disconnect.withdraw_disconnect.Symbol.code withdraw_disconnect.withdraw_disconnect.Symbol.name
«withdraw_disconnect::withdraw_disconnect» = returns withdraw_disconnect.withdraw_disconnect.Symbol.code (λ κs a. (tt, refl)) withdraw_disconnect.withdraw_disconnect.Met.met

pub «withdraw_disconnect::WithdrawDisconnectCallSlotCall::rule» : Everywhere withdraw_disconnect'.WithdrawDisconnectCallSlotCall.rule.signature (λ 𝓤. withdraw_disconnect'.WithdrawDisconnectCallSlotCall.rule.spec) withdraw_disconnect.WithdrawDisconnectCallSlotCall.rule.Symbol.code withdraw_disconnect.WithdrawDisconnectCallSlotCall.rule.Symbol.name
«withdraw_disconnect::WithdrawDisconnectCallSlotCall::rule» = returns withdraw_disconnect.WithdrawDisconnectCallSlotCall.rule.Symbol.code (λ κs a. (tt, refl)) withdraw_disconnect.WithdrawDisconnectCallSlotCall.rule.Met.met

pub «withdraw_disconnect::WithdrawDisconnectCallSlotCall::absent» : Everywhere withdraw_disconnect'.WithdrawDisconnectCallSlotCall.absent.signature (λ 𝓤. withdraw_disconnect'.WithdrawDisconnectCallSlotCall.absent.spec) withdraw_disconnect.WithdrawDisconnectCallSlotCall.absent.Symbol.code withdraw_disconnect.WithdrawDisconnectCallSlotCall.absent.Symbol.name
«withdraw_disconnect::WithdrawDisconnectCallSlotCall::absent» = returns withdraw_disconnect.WithdrawDisconnectCallSlotCall.absent.Symbol.code (λ κs a. (tt, refl)) withdraw_disconnect.WithdrawDisconnectCallSlotCall.absent.Met.met

pub «withdraw_disconnect::WithdrawDisconnectCallSlotCall::at» : Everywhere withdraw_disconnect'.WithdrawDisconnectCallSlotCall.at.signature (λ 𝓤. withdraw_disconnect'.WithdrawDisconnectCallSlotCall.at.spec) withdraw_disconnect.WithdrawDisconnectCallSlotCall.at.Symbol.code withdraw_disconnect.WithdrawDisconnectCallSlotCall.at.Symbol.name
«withdraw_disconnect::WithdrawDisconnectCallSlotCall::at» = returns withdraw_disconnect.WithdrawDisconnectCallSlotCall.at.Symbol.code (λ κs a. (tt, refl)) withdraw_disconnect.WithdrawDisconnectCallSlotCall.at.Met.met

pub «confirm::confirm» : Everywhere confirm'.confirm.signature (λ 𝓤. confirm'.confirm.spec) confirm.confirm.Symbol.code confirm.confirm.Symbol.name
«confirm::confirm» = returns confirm.confirm.Symbol.code (λ κs a. (tt, refl)) confirm.confirm.Met.met

pub «confirm::ConfirmCallSlotCall::rule» : Everywhere confirm'.ConfirmCallSlotCall.rule.signature (λ 𝓤. confirm'.ConfirmCallSlotCall.rule.spec) confirm.ConfirmCallSlotCall.rule.Symbol.code confirm.ConfirmCallSlotCall.rule.Symbol.name
«confirm::ConfirmCallSlotCall::rule» = returns confirm.ConfirmCallSlotCall.rule.Symbol.code (λ κs a. (tt, refl)) confirm.ConfirmCallSlotCall.rule.Met.met

pub «confirm::ConfirmCallSlotCall::absent» : Everywhere confirm'.ConfirmCallSlotCall.absent.signature (λ 𝓤. confirm'.ConfirmCallSlotCall.absent.spec) confirm.ConfirmCallSlotCall.absent.Symbol.code confirm.ConfirmCallSlotCall.absent.Symbol.name
«confirm::ConfirmCallSlotCall::absent» = returns confirm.ConfirmCallSlotCall.absent.Symbol.code (λ κs a. (tt, refl)) confirm.ConfirmCallSlotCall.absent.Met.met

pub «confirm::ConfirmCallSlotCall::at» : Everywhere confirm'.ConfirmCallSlotCall.at.signature (λ 𝓤. confirm'.ConfirmCallSlotCall.at.spec) confirm.ConfirmCallSlotCall.at.Symbol.code confirm.ConfirmCallSlotCall.at.Symbol.name
«confirm::ConfirmCallSlotCall::at» = returns confirm.ConfirmCallSlotCall.at.Symbol.code (λ κs a. (tt, refl)) confirm.ConfirmCallSlotCall.at.Met.met

pub «disconnected::disconnected» : Everywhere disconnected'.disconnected.signature (λ 𝓤. disconnected'.disconnected.spec) disconnected.disconnected.Symbol.code disconnected.disconnected.Symbol.name
«disconnected::disconnected» = returns disconnected.disconnected.Symbol.code (λ κs a. (tt, refl)) disconnected.disconnected.Met.met

pub «disconnected::DisconnectedCallSlotCall::rule» : Everywhere disconnected'.DisconnectedCallSlotCall.rule.signature (λ 𝓤. disconnected'.DisconnectedCallSlotCall.rule.spec) disconnected.DisconnectedCallSlotCall.rule.Symbol.code disconnected.DisconnectedCallSlotCall.rule.Symbol.name
«disconnected::DisconnectedCallSlotCall::rule» = returns disconnected.DisconnectedCallSlotCall.rule.Symbol.code (λ κs a. (tt, refl)) disconnected.DisconnectedCallSlotCall.rule.Met.met

pub «disconnected::DisconnectedCallSlotCall::absent» : Everywhere disconnected'.DisconnectedCallSlotCall.absent.signature (λ 𝓤. disconnected'.DisconnectedCallSlotCall.absent.spec) disconnected.DisconnectedCallSlotCall.absent.Symbol.code disconnected.DisconnectedCallSlotCall.absent.Symbol.name
«disconnected::DisconnectedCallSlotCall::absent» = returns disconnected.DisconnectedCallSlotCall.absent.Symbol.code (λ κs a. (tt, refl)) disconnected.DisconnectedCallSlotCall.absent.Met.met

pub «disconnected::DisconnectedCallSlotCall::at» : Everywhere disconnected'.DisconnectedCallSlotCall.at.signature (λ 𝓤. disconnected'.DisconnectedCallSlotCall.at.spec) disconnected.DisconnectedCallSlotCall.at.Symbol.code disconnected.DisconnectedCallSlotCall.at.Symbol.name
«disconnected::DisconnectedCallSlotCall::at» = returns disconnected.DisconnectedCallSlotCall.at.Symbol.code (λ κs a. (tt, refl)) disconnected.DisconnectedCallSlotCall.at.Met.met

pub «att_mtu::answered» : Everywhere att_mtu'.answered.signature (λ 𝓤. att_mtu'.answered.spec) att_mtu.answered.Symbol.code att_mtu.answered.Symbol.name
«att_mtu::answered» = returns att_mtu.answered.Symbol.code (λ κs a. (tt, refl)) att_mtu.answered.Met.met

pub «att_mtu::lesser» : Everywhere att_mtu'.lesser.signature (λ 𝓤. att_mtu'.lesser.spec) att_mtu.lesser.Symbol.code att_mtu.lesser.Symbol.name
«att_mtu::lesser» = returns att_mtu.lesser.Symbol.code (λ κs a. (tt, refl)) att_mtu.lesser.Met.met

pub «att_mtu::exchange_att_mtu» : Everywhere att_mtu'.exchange_att_mtu.signature (λ 𝓤. att_mtu'.exchange_att_mtu.spec) att_mtu.exchange_att_mtu.Symbol.code att_mtu.exchange_att_mtu.Symbol.name
«att_mtu::exchange_att_mtu» = returns att_mtu.exchange_att_mtu.Symbol.code (λ κs a. (tt, refl)) att_mtu.exchange_att_mtu.Met.met

pub «att_mtu::get_att_mtu_handle» : Everywhere att_mtu'.get_att_mtu_handle.signature (λ 𝓤. att_mtu'.get_att_mtu_handle.spec) att_mtu.get_att_mtu_handle.Symbol.code att_mtu.get_att_mtu_handle.Symbol.name
«att_mtu::get_att_mtu_handle» = returns att_mtu.get_att_mtu_handle.Symbol.code (λ κs a. (tt, refl)) att_mtu.get_att_mtu_handle.Met.met

pub «att_mtu::ExchangeAttMtuCallSlotCall::rule» : Everywhere att_mtu'.ExchangeAttMtuCallSlotCall.rule.signature (λ 𝓤. att_mtu'.ExchangeAttMtuCallSlotCall.rule.spec) att_mtu.ExchangeAttMtuCallSlotCall.rule.Symbol.code att_mtu.ExchangeAttMtuCallSlotCall.rule.Symbol.name
«att_mtu::ExchangeAttMtuCallSlotCall::rule» = returns att_mtu.ExchangeAttMtuCallSlotCall.rule.Symbol.code (λ κs a. (tt, refl)) att_mtu.ExchangeAttMtuCallSlotCall.rule.Met.met

pub «att_mtu::ExchangeAttMtuCallSlotCall::absent» : Everywhere att_mtu'.ExchangeAttMtuCallSlotCall.absent.signature (λ 𝓤. att_mtu'.ExchangeAttMtuCallSlotCall.absent.spec) att_mtu.ExchangeAttMtuCallSlotCall.absent.Symbol.code att_mtu.ExchangeAttMtuCallSlotCall.absent.Symbol.name
«att_mtu::ExchangeAttMtuCallSlotCall::absent» = returns att_mtu.ExchangeAttMtuCallSlotCall.absent.Symbol.code (λ κs a. (tt, refl)) att_mtu.ExchangeAttMtuCallSlotCall.absent.Met.met

pub «att_mtu::ExchangeAttMtuCallSlotCall::at» : Everywhere att_mtu'.ExchangeAttMtuCallSlotCall.at.signature (λ 𝓤. att_mtu'.ExchangeAttMtuCallSlotCall.at.spec) att_mtu.ExchangeAttMtuCallSlotCall.at.Symbol.code att_mtu.ExchangeAttMtuCallSlotCall.at.Symbol.name
«att_mtu::ExchangeAttMtuCallSlotCall::at» = returns att_mtu.ExchangeAttMtuCallSlotCall.at.Symbol.code (λ κs a. (tt, refl)) att_mtu.ExchangeAttMtuCallSlotCall.at.Met.met

pub «att_mtu::GetAttMtuHandleCallSlotCall::rule» : Everywhere att_mtu'.GetAttMtuHandleCallSlotCall.rule.signature (λ 𝓤. att_mtu'.GetAttMtuHandleCallSlotCall.rule.spec) att_mtu.GetAttMtuHandleCallSlotCall.rule.Symbol.code att_mtu.GetAttMtuHandleCallSlotCall.rule.Symbol.name
«att_mtu::GetAttMtuHandleCallSlotCall::rule» = returns att_mtu.GetAttMtuHandleCallSlotCall.rule.Symbol.code (λ κs a. (tt, refl)) att_mtu.GetAttMtuHandleCallSlotCall.rule.Met.met

pub «att_mtu::GetAttMtuHandleCallSlotCall::absent» : Everywhere att_mtu'.GetAttMtuHandleCallSlotCall.absent.signature (λ 𝓤. att_mtu'.GetAttMtuHandleCallSlotCall.absent.spec) att_mtu.GetAttMtuHandleCallSlotCall.absent.Symbol.code att_mtu.GetAttMtuHandleCallSlotCall.absent.Symbol.name
«att_mtu::GetAttMtuHandleCallSlotCall::absent» = returns att_mtu.GetAttMtuHandleCallSlotCall.absent.Symbol.code (λ κs a. (tt, refl)) att_mtu.GetAttMtuHandleCallSlotCall.absent.Met.met

pub «att_mtu::GetAttMtuHandleCallSlotCall::at» : Everywhere att_mtu'.GetAttMtuHandleCallSlotCall.at.signature (λ 𝓤. att_mtu'.GetAttMtuHandleCallSlotCall.at.spec) att_mtu.GetAttMtuHandleCallSlotCall.at.Symbol.code att_mtu.GetAttMtuHandleCallSlotCall.at.Symbol.name
«att_mtu::GetAttMtuHandleCallSlotCall::at» = returns att_mtu.GetAttMtuHandleCallSlotCall.at.Symbol.code (λ κs a. (tt, refl)) att_mtu.GetAttMtuHandleCallSlotCall.at.Met.met

pub «negotiated_mtu::negotiate_att_mtu» : Everywhere negotiated_mtu'.negotiate_att_mtu.signature (λ 𝓤. negotiated_mtu'.negotiate_att_mtu.spec) negotiated_mtu.negotiate_att_mtu.Symbol.code negotiated_mtu.negotiate_att_mtu.Symbol.name
«negotiated_mtu::negotiate_att_mtu» = returns negotiated_mtu.negotiate_att_mtu.Symbol.code (λ κs a. (tt, refl)) negotiated_mtu.negotiate_att_mtu.Met.met

pub «negotiated_mtu::get_stored_att_mtu» : Everywhere negotiated_mtu'.get_stored_att_mtu.signature (λ 𝓤. negotiated_mtu'.get_stored_att_mtu.spec) negotiated_mtu.get_stored_att_mtu.Symbol.code negotiated_mtu.get_stored_att_mtu.Symbol.name
«negotiated_mtu::get_stored_att_mtu» = returns negotiated_mtu.get_stored_att_mtu.Symbol.code (λ κs a. (tt, refl)) negotiated_mtu.get_stored_att_mtu.Met.met

pub «negotiated_mtu::NegotiateAttMtuCallSlotCall::rule» : Everywhere negotiated_mtu'.NegotiateAttMtuCallSlotCall.rule.signature (λ 𝓤. negotiated_mtu'.NegotiateAttMtuCallSlotCall.rule.spec) negotiated_mtu.NegotiateAttMtuCallSlotCall.rule.Symbol.code negotiated_mtu.NegotiateAttMtuCallSlotCall.rule.Symbol.name
«negotiated_mtu::NegotiateAttMtuCallSlotCall::rule» = returns negotiated_mtu.NegotiateAttMtuCallSlotCall.rule.Symbol.code (λ κs a. (tt, refl)) negotiated_mtu.NegotiateAttMtuCallSlotCall.rule.Met.met

pub «negotiated_mtu::NegotiateAttMtuCallSlotCall::absent» : Everywhere negotiated_mtu'.NegotiateAttMtuCallSlotCall.absent.signature (λ 𝓤. negotiated_mtu'.NegotiateAttMtuCallSlotCall.absent.spec) negotiated_mtu.NegotiateAttMtuCallSlotCall.absent.Symbol.code negotiated_mtu.NegotiateAttMtuCallSlotCall.absent.Symbol.name
«negotiated_mtu::NegotiateAttMtuCallSlotCall::absent» = returns negotiated_mtu.NegotiateAttMtuCallSlotCall.absent.Symbol.code (λ κs a. (tt, refl)) negotiated_mtu.NegotiateAttMtuCallSlotCall.absent.Met.met

pub «negotiated_mtu::NegotiateAttMtuCallSlotCall::at» : Everywhere negotiated_mtu'.NegotiateAttMtuCallSlotCall.at.signature (λ 𝓤. negotiated_mtu'.NegotiateAttMtuCallSlotCall.at.spec) negotiated_mtu.NegotiateAttMtuCallSlotCall.at.Symbol.code negotiated_mtu.NegotiateAttMtuCallSlotCall.at.Symbol.name
«negotiated_mtu::NegotiateAttMtuCallSlotCall::at» = returns negotiated_mtu.NegotiateAttMtuCallSlotCall.at.Symbol.code (λ κs a. (tt, refl)) negotiated_mtu.NegotiateAttMtuCallSlotCall.at.Met.met

pub «negotiated_mtu::GetStoredAttMtuCallSlotCall::rule» : Everywhere negotiated_mtu'.GetStoredAttMtuCallSlotCall.rule.signature (λ 𝓤. negotiated_mtu'.GetStoredAttMtuCallSlotCall.rule.spec) negotiated_mtu.GetStoredAttMtuCallSlotCall.rule.Symbol.code negotiated_mtu.GetStoredAttMtuCallSlotCall.rule.Symbol.name
«negotiated_mtu::GetStoredAttMtuCallSlotCall::rule» = returns negotiated_mtu.GetStoredAttMtuCallSlotCall.rule.Symbol.code (λ κs a. (tt, refl)) negotiated_mtu.GetStoredAttMtuCallSlotCall.rule.Met.met

pub «negotiated_mtu::GetStoredAttMtuCallSlotCall::absent» : Everywhere negotiated_mtu'.GetStoredAttMtuCallSlotCall.absent.signature (λ 𝓤. negotiated_mtu'.GetStoredAttMtuCallSlotCall.absent.spec) negotiated_mtu.GetStoredAttMtuCallSlotCall.absent.Symbol.code negotiated_mtu.GetStoredAttMtuCallSlotCall.absent.Symbol.name
«negotiated_mtu::GetStoredAttMtuCallSlotCall::absent» = returns negotiated_mtu.GetStoredAttMtuCallSlotCall.absent.Symbol.code (λ κs a. (tt, refl)) negotiated_mtu.GetStoredAttMtuCallSlotCall.absent.Met.met

pub «negotiated_mtu::GetStoredAttMtuCallSlotCall::at» : Everywhere negotiated_mtu'.GetStoredAttMtuCallSlotCall.at.signature (λ 𝓤. negotiated_mtu'.GetStoredAttMtuCallSlotCall.at.spec) negotiated_mtu.GetStoredAttMtuCallSlotCall.at.Symbol.code negotiated_mtu.GetStoredAttMtuCallSlotCall.at.Symbol.name
«negotiated_mtu::GetStoredAttMtuCallSlotCall::at» = returns negotiated_mtu.GetStoredAttMtuCallSlotCall.at.Symbol.code (λ κs a. (tt, refl)) negotiated_mtu.GetStoredAttMtuCallSlotCall.at.Met.met

pub «signal_indication_confirmation::signal_indication_confirmation» : Everywhere signal_indication_confirmation'.signal_indication_confirmation.signature (λ 𝓤. signal_indication_confirmation'.signal_indication_confirmation.spec) signal_indication_confirmation.signal_indication_confirmation.Symbol.code signal_indication_confirmation.signal_indication_confirmation.Symbol.name
«signal_indication_confirmation::signal_indication_confirmation» = returns signal_indication_confirmation.signal_indication_confirmation.Symbol.code (λ κs a. (tt, refl)) signal_indication_confirmation.signal_indication_confirmation.Met.met

pub «signal_indication_confirmation::SignalIndicationConfirmationCallSlotCall::rule» : Everywhere signal_indication_confirmation'.SignalIndicationConfirmationCallSlotCall.rule.signature (λ 𝓤. signal_indication_confirmation'.SignalIndicationConfirmationCallSlotCall.rule.spec) signal_indication_confirmation.SignalIndicationConfirmationCallSlotCall.rule.Symbol.code signal_indication_confirmation.SignalIndicationConfirmationCallSlotCall.rule.Symbol.name
«signal_indication_confirmation::SignalIndicationConfirmationCallSlotCall::rule» = returns signal_indication_confirmation.SignalIndicationConfirmationCallSlotCall.rule.Symbol.code (λ κs a. (tt, refl)) signal_indication_confirmation.SignalIndicationConfirmationCallSlotCall.rule.Met.met

pub «signal_indication_confirmation::SignalIndicationConfirmationCallSlotCall::absent» : Everywhere signal_indication_confirmation'.SignalIndicationConfirmationCallSlotCall.absent.signature (λ 𝓤. signal_indication_confirmation'.SignalIndicationConfirmationCallSlotCall.absent.spec) signal_indication_confirmation.SignalIndicationConfirmationCallSlotCall.absent.Symbol.code signal_indication_confirmation.SignalIndicationConfirmationCallSlotCall.absent.Symbol.name
«signal_indication_confirmation::SignalIndicationConfirmationCallSlotCall::absent» = returns signal_indication_confirmation.SignalIndicationConfirmationCallSlotCall.absent.Symbol.code (λ κs a. (tt, refl)) signal_indication_confirmation.SignalIndicationConfirmationCallSlotCall.absent.Met.met

pub «signal_indication_confirmation::SignalIndicationConfirmationCallSlotCall::at» : Everywhere signal_indication_confirmation'.SignalIndicationConfirmationCallSlotCall.at.signature (λ 𝓤. signal_indication_confirmation'.SignalIndicationConfirmationCallSlotCall.at.spec) signal_indication_confirmation.SignalIndicationConfirmationCallSlotCall.at.Symbol.code signal_indication_confirmation.SignalIndicationConfirmationCallSlotCall.at.Symbol.name
«signal_indication_confirmation::SignalIndicationConfirmationCallSlotCall::at» = returns signal_indication_confirmation.SignalIndicationConfirmationCallSlotCall.at.Symbol.code (λ κs a. (tt, refl)) signal_indication_confirmation.SignalIndicationConfirmationCallSlotCall.at.Met.met

pub «wait_indication_confirmation::wait_indication_confirmation» : Everywhere wait_indication_confirmation'.wait_indication_confirmation.signature (λ 𝓤. wait_indication_confirmation'.wait_indication_confirmation.spec) wait_indication_confirmation.wait_indication_confirmation.Symbol.code wait_indication_confirmation.wait_indication_confirmation.Symbol.name
«wait_indication_confirmation::wait_indication_confirmation» = returns wait_indication_confirmation.wait_indication_confirmation.Symbol.code (λ κs a. (tt, refl)) wait_indication_confirmation.wait_indication_confirmation.Met.met

pub «wait_indication_confirmation::WaitIndicationConfirmationCallSlotCall::rule» : Everywhere wait_indication_confirmation'.WaitIndicationConfirmationCallSlotCall.rule.signature (λ 𝓤. wait_indication_confirmation'.WaitIndicationConfirmationCallSlotCall.rule.spec) wait_indication_confirmation.WaitIndicationConfirmationCallSlotCall.rule.Symbol.code wait_indication_confirmation.WaitIndicationConfirmationCallSlotCall.rule.Symbol.name
«wait_indication_confirmation::WaitIndicationConfirmationCallSlotCall::rule» = returns wait_indication_confirmation.WaitIndicationConfirmationCallSlotCall.rule.Symbol.code (λ κs a. (tt, refl)) wait_indication_confirmation.WaitIndicationConfirmationCallSlotCall.rule.Met.met

pub «wait_indication_confirmation::WaitIndicationConfirmationCallSlotCall::absent» : Everywhere wait_indication_confirmation'.WaitIndicationConfirmationCallSlotCall.absent.signature (λ 𝓤. wait_indication_confirmation'.WaitIndicationConfirmationCallSlotCall.absent.spec) wait_indication_confirmation.WaitIndicationConfirmationCallSlotCall.absent.Symbol.code wait_indication_confirmation.WaitIndicationConfirmationCallSlotCall.absent.Symbol.name
«wait_indication_confirmation::WaitIndicationConfirmationCallSlotCall::absent» = returns wait_indication_confirmation.WaitIndicationConfirmationCallSlotCall.absent.Symbol.code (λ κs a. (tt, refl)) wait_indication_confirmation.WaitIndicationConfirmationCallSlotCall.absent.Met.met

pub «wait_indication_confirmation::WaitIndicationConfirmationCallSlotCall::at» : Everywhere wait_indication_confirmation'.WaitIndicationConfirmationCallSlotCall.at.signature (λ 𝓤. wait_indication_confirmation'.WaitIndicationConfirmationCallSlotCall.at.spec) wait_indication_confirmation.WaitIndicationConfirmationCallSlotCall.at.Symbol.code wait_indication_confirmation.WaitIndicationConfirmationCallSlotCall.at.Symbol.name
«wait_indication_confirmation::WaitIndicationConfirmationCallSlotCall::at» = returns wait_indication_confirmation.WaitIndicationConfirmationCallSlotCall.at.Symbol.code (λ κs a. (tt, refl)) wait_indication_confirmation.WaitIndicationConfirmationCallSlotCall.at.Met.met

pub «post_handle_event::post_handle_event» : Everywhere post_handle_event'.post_handle_event.signature (λ 𝓤. post_handle_event'.post_handle_event.spec) post_handle_event.post_handle_event.Symbol.code post_handle_event.post_handle_event.Symbol.name
«post_handle_event::post_handle_event» = returns post_handle_event.post_handle_event.Symbol.code (λ κs a. (tt, refl)) post_handle_event.post_handle_event.Met.met

pub «post_handle_event::PostHandleEventCallSlotCall::rule» : Everywhere post_handle_event'.PostHandleEventCallSlotCall.rule.signature (λ 𝓤. post_handle_event'.PostHandleEventCallSlotCall.rule.spec) post_handle_event.PostHandleEventCallSlotCall.rule.Symbol.code post_handle_event.PostHandleEventCallSlotCall.rule.Symbol.name
«post_handle_event::PostHandleEventCallSlotCall::rule» = returns post_handle_event.PostHandleEventCallSlotCall.rule.Symbol.code (λ κs a. (tt, refl)) post_handle_event.PostHandleEventCallSlotCall.rule.Met.met

pub «post_handle_event::PostHandleEventCallSlotCall::absent» : Everywhere post_handle_event'.PostHandleEventCallSlotCall.absent.signature (λ 𝓤. post_handle_event'.PostHandleEventCallSlotCall.absent.spec) post_handle_event.PostHandleEventCallSlotCall.absent.Symbol.code post_handle_event.PostHandleEventCallSlotCall.absent.Symbol.name
«post_handle_event::PostHandleEventCallSlotCall::absent» = returns post_handle_event.PostHandleEventCallSlotCall.absent.Symbol.code (λ κs a. (tt, refl)) post_handle_event.PostHandleEventCallSlotCall.absent.Met.met

pub «post_handle_event::PostHandleEventCallSlotCall::at» : Everywhere post_handle_event'.PostHandleEventCallSlotCall.at.signature (λ 𝓤. post_handle_event'.PostHandleEventCallSlotCall.at.spec) post_handle_event.PostHandleEventCallSlotCall.at.Symbol.code post_handle_event.PostHandleEventCallSlotCall.at.Symbol.name
«post_handle_event::PostHandleEventCallSlotCall::at» = returns post_handle_event.PostHandleEventCallSlotCall.at.Symbol.code (λ κs a. (tt, refl)) post_handle_event.PostHandleEventCallSlotCall.at.Met.met

pub «next::next» : Everywhere next'.next.signature (λ 𝓤. next'.next.spec) next.next.Symbol.code next.next.Symbol.name
«next::next» = returns next.next.Symbol.code (λ κs a. (tt, refl)) next.next.Met.met

pub «next::NextCallSlotCall::rule» : Everywhere next'.NextCallSlotCall.rule.signature (λ 𝓤. next'.NextCallSlotCall.rule.spec) next.NextCallSlotCall.rule.Symbol.code next.NextCallSlotCall.rule.Symbol.name
«next::NextCallSlotCall::rule» = returns next.NextCallSlotCall.rule.Symbol.code (λ κs a. (tt, refl)) next.NextCallSlotCall.rule.Met.met

pub «next::NextCallSlotCall::absent» : Everywhere next'.NextCallSlotCall.absent.signature (λ 𝓤. next'.NextCallSlotCall.absent.spec) next.NextCallSlotCall.absent.Symbol.code next.NextCallSlotCall.absent.Symbol.name
«next::NextCallSlotCall::absent» = returns next.NextCallSlotCall.absent.Symbol.code (λ κs a. (tt, refl)) next.NextCallSlotCall.absent.Met.met

pub «next::NextCallSlotCall::at» : Everywhere next'.NextCallSlotCall.at.signature (λ 𝓤. next'.NextCallSlotCall.at.spec) next.NextCallSlotCall.at.Symbol.code next.NextCallSlotCall.at.Symbol.name
«next::NextCallSlotCall::at» = returns next.NextCallSlotCall.at.Symbol.code (λ κs a. (tt, refl)) next.NextCallSlotCall.at.Met.met

pub «acquire_indication_slot::acquire_indication_slot» : Everywhere acquire_indication_slot'.acquire_indication_slot.signature (λ 𝓤. acquire_indication_slot'.acquire_indication_slot.spec) acquire_indication_slot.acquire_indication_slot.Symbol.code acquire_indication_slot.acquire_indication_slot.Symbol.name
«acquire_indication_slot::acquire_indication_slot» = returns acquire_indication_slot.acquire_indication_slot.Symbol.code (λ κs a. (tt, refl)) acquire_indication_slot.acquire_indication_slot.Met.met

pub «acquire_indication_slot::AcquireIndicationSlotCallSlotCall::rule» : Everywhere acquire_indication_slot'.AcquireIndicationSlotCallSlotCall.rule.signature (λ 𝓤. acquire_indication_slot'.AcquireIndicationSlotCallSlotCall.rule.spec) acquire_indication_slot.AcquireIndicationSlotCallSlotCall.rule.Symbol.code acquire_indication_slot.AcquireIndicationSlotCallSlotCall.rule.Symbol.name
«acquire_indication_slot::AcquireIndicationSlotCallSlotCall::rule» = returns acquire_indication_slot.AcquireIndicationSlotCallSlotCall.rule.Symbol.code (λ κs a. (tt, refl)) acquire_indication_slot.AcquireIndicationSlotCallSlotCall.rule.Met.met

pub «acquire_indication_slot::AcquireIndicationSlotCallSlotCall::absent» : Everywhere acquire_indication_slot'.AcquireIndicationSlotCallSlotCall.absent.signature (λ 𝓤. acquire_indication_slot'.AcquireIndicationSlotCallSlotCall.absent.spec) acquire_indication_slot.AcquireIndicationSlotCallSlotCall.absent.Symbol.code acquire_indication_slot.AcquireIndicationSlotCallSlotCall.absent.Symbol.name
«acquire_indication_slot::AcquireIndicationSlotCallSlotCall::absent» = returns acquire_indication_slot.AcquireIndicationSlotCallSlotCall.absent.Symbol.code (λ κs a. (tt, refl)) acquire_indication_slot.AcquireIndicationSlotCallSlotCall.absent.Met.met

pub «acquire_indication_slot::AcquireIndicationSlotCallSlotCall::at» : Everywhere acquire_indication_slot'.AcquireIndicationSlotCallSlotCall.at.signature (λ 𝓤. acquire_indication_slot'.AcquireIndicationSlotCallSlotCall.at.spec) acquire_indication_slot.AcquireIndicationSlotCallSlotCall.at.Symbol.code acquire_indication_slot.AcquireIndicationSlotCallSlotCall.at.Symbol.name
«acquire_indication_slot::AcquireIndicationSlotCallSlotCall::at» = returns acquire_indication_slot.AcquireIndicationSlotCallSlotCall.at.Symbol.code (λ κs a. (tt, refl)) acquire_indication_slot.AcquireIndicationSlotCallSlotCall.at.Met.met

pub «release_indication_slot::release_indication_slot» : Everywhere release_indication_slot'.release_indication_slot.signature (λ 𝓤. release_indication_slot'.release_indication_slot.spec) release_indication_slot.release_indication_slot.Symbol.code release_indication_slot.release_indication_slot.Symbol.name
«release_indication_slot::release_indication_slot» = returns release_indication_slot.release_indication_slot.Symbol.code (λ κs a. (tt, refl)) release_indication_slot.release_indication_slot.Met.met

pub «release_indication_slot::ReleaseIndicationSlotCallSlotCall::rule» : Everywhere release_indication_slot'.ReleaseIndicationSlotCallSlotCall.rule.signature (λ 𝓤. release_indication_slot'.ReleaseIndicationSlotCallSlotCall.rule.spec) release_indication_slot.ReleaseIndicationSlotCallSlotCall.rule.Symbol.code release_indication_slot.ReleaseIndicationSlotCallSlotCall.rule.Symbol.name
«release_indication_slot::ReleaseIndicationSlotCallSlotCall::rule» = returns release_indication_slot.ReleaseIndicationSlotCallSlotCall.rule.Symbol.code (λ κs a. (tt, refl)) release_indication_slot.ReleaseIndicationSlotCallSlotCall.rule.Met.met

pub «release_indication_slot::ReleaseIndicationSlotCallSlotCall::absent» : Everywhere release_indication_slot'.ReleaseIndicationSlotCallSlotCall.absent.signature (λ 𝓤. release_indication_slot'.ReleaseIndicationSlotCallSlotCall.absent.spec) release_indication_slot.ReleaseIndicationSlotCallSlotCall.absent.Symbol.code release_indication_slot.ReleaseIndicationSlotCallSlotCall.absent.Symbol.name
«release_indication_slot::ReleaseIndicationSlotCallSlotCall::absent» = returns release_indication_slot.ReleaseIndicationSlotCallSlotCall.absent.Symbol.code (λ κs a. (tt, refl)) release_indication_slot.ReleaseIndicationSlotCallSlotCall.absent.Met.met

pub «release_indication_slot::ReleaseIndicationSlotCallSlotCall::at» : Everywhere release_indication_slot'.ReleaseIndicationSlotCallSlotCall.at.signature (λ 𝓤. release_indication_slot'.ReleaseIndicationSlotCallSlotCall.at.spec) release_indication_slot.ReleaseIndicationSlotCallSlotCall.at.Symbol.code release_indication_slot.ReleaseIndicationSlotCallSlotCall.at.Symbol.name
«release_indication_slot::ReleaseIndicationSlotCallSlotCall::at» = returns release_indication_slot.ReleaseIndicationSlotCallSlotCall.at.Symbol.code (λ κs a. (tt, refl)) release_indication_slot.ReleaseIndicationSlotCallSlotCall.at.Met.met

pub «all_credits::set_link_credits_in» : Everywhere all_credits'.set_link_credits_in.signature (λ 𝓤. all_credits'.set_link_credits_in.spec) all_credits.set_link_credits_in.Symbol.code all_credits.set_link_credits_in.Symbol.name
«all_credits::set_link_credits_in» = returns all_credits.set_link_credits_in.Symbol.code (λ κs a. (tt, refl)) all_credits.set_link_credits_in.Met.met

pub «all_credits::set_link_credits» : Everywhere all_credits'.set_link_credits.signature (λ 𝓤. all_credits'.set_link_credits.spec) all_credits.set_link_credits.Symbol.code all_credits.set_link_credits.Symbol.name
«all_credits::set_link_credits» = returns all_credits.set_link_credits.Symbol.code (λ κs a. (tt, refl)) all_credits.set_link_credits.Met.met

pub «total_lost::total_lost_in» : Everywhere total_lost'.total_lost_in.signature (λ 𝓤. total_lost'.total_lost_in.spec) total_lost.total_lost_in.Symbol.code total_lost.total_lost_in.Symbol.name
«total_lost::total_lost_in» = returns total_lost.total_lost_in.Symbol.code (λ κs a. (tt, refl)) total_lost.total_lost_in.Met.met

pub «total_lost::total_lost» : Everywhere total_lost'.total_lost.signature (λ 𝓤. total_lost'.total_lost.spec) total_lost.total_lost.Symbol.code total_lost.total_lost.Symbol.name
«total_lost::total_lost» = returns total_lost.total_lost.Symbol.code (λ κs a. (tt, refl)) total_lost.total_lost.Met.met

pub «confirm_sent::confirm_sent» : Everywhere confirm_sent'.confirm_sent.signature (λ 𝓤. confirm_sent'.confirm_sent.spec) confirm_sent.confirm_sent.Symbol.code confirm_sent.confirm_sent.Symbol.name
«confirm_sent::confirm_sent» = returns confirm_sent.confirm_sent.Symbol.code (λ κs a. (tt, refl)) confirm_sent.confirm_sent.Met.met

pub «confirm_sent::ConfirmSentCallSlotCall::rule» : Everywhere confirm_sent'.ConfirmSentCallSlotCall.rule.signature (λ 𝓤. confirm_sent'.ConfirmSentCallSlotCall.rule.spec) confirm_sent.ConfirmSentCallSlotCall.rule.Symbol.code confirm_sent.ConfirmSentCallSlotCall.rule.Symbol.name
«confirm_sent::ConfirmSentCallSlotCall::rule» = returns confirm_sent.ConfirmSentCallSlotCall.rule.Symbol.code (λ κs a. (tt, refl)) confirm_sent.ConfirmSentCallSlotCall.rule.Met.met

pub «confirm_sent::ConfirmSentCallSlotCall::absent» : Everywhere confirm_sent'.ConfirmSentCallSlotCall.absent.signature (λ 𝓤. confirm_sent'.ConfirmSentCallSlotCall.absent.spec) confirm_sent.ConfirmSentCallSlotCall.absent.Symbol.code confirm_sent.ConfirmSentCallSlotCall.absent.Symbol.name
«confirm_sent::ConfirmSentCallSlotCall::absent» = returns confirm_sent.ConfirmSentCallSlotCall.absent.Symbol.code (λ κs a. (tt, refl)) confirm_sent.ConfirmSentCallSlotCall.absent.Met.met

pub «confirm_sent::ConfirmSentCallSlotCall::at» : Everywhere confirm_sent'.ConfirmSentCallSlotCall.at.signature (λ 𝓤. confirm_sent'.ConfirmSentCallSlotCall.at.spec) confirm_sent.ConfirmSentCallSlotCall.at.Symbol.code confirm_sent.ConfirmSentCallSlotCall.at.Symbol.name
«confirm_sent::ConfirmSentCallSlotCall::at» = returns confirm_sent.ConfirmSentCallSlotCall.at.Symbol.code (λ κs a. (tt, refl)) confirm_sent.ConfirmSentCallSlotCall.at.Met.met

pub «has_link_credits::has_link_credits» : Everywhere has_link_credits'.has_link_credits.signature (λ 𝓤. has_link_credits'.has_link_credits.spec) has_link_credits.has_link_credits.Symbol.code has_link_credits.has_link_credits.Symbol.name
«has_link_credits::has_link_credits» = returns has_link_credits.has_link_credits.Symbol.code (λ κs a. (tt, refl)) has_link_credits.has_link_credits.Met.met

pub «has_link_credits::HasLinkCreditsCallSlotCall::rule» : Everywhere has_link_credits'.HasLinkCreditsCallSlotCall.rule.signature (λ 𝓤. has_link_credits'.HasLinkCreditsCallSlotCall.rule.spec) has_link_credits.HasLinkCreditsCallSlotCall.rule.Symbol.code has_link_credits.HasLinkCreditsCallSlotCall.rule.Symbol.name
«has_link_credits::HasLinkCreditsCallSlotCall::rule» = returns has_link_credits.HasLinkCreditsCallSlotCall.rule.Symbol.code (λ κs a. (tt, refl)) has_link_credits.HasLinkCreditsCallSlotCall.rule.Met.met

pub «has_link_credits::HasLinkCreditsCallSlotCall::absent» : Everywhere has_link_credits'.HasLinkCreditsCallSlotCall.absent.signature (λ 𝓤. has_link_credits'.HasLinkCreditsCallSlotCall.absent.spec) has_link_credits.HasLinkCreditsCallSlotCall.absent.Symbol.code has_link_credits.HasLinkCreditsCallSlotCall.absent.Symbol.name
«has_link_credits::HasLinkCreditsCallSlotCall::absent» = returns has_link_credits.HasLinkCreditsCallSlotCall.absent.Symbol.code (λ κs a. (tt, refl)) has_link_credits.HasLinkCreditsCallSlotCall.absent.Met.met

pub «has_link_credits::HasLinkCreditsCallSlotCall::at» : Everywhere has_link_credits'.HasLinkCreditsCallSlotCall.at.signature (λ 𝓤. has_link_credits'.HasLinkCreditsCallSlotCall.at.spec) has_link_credits.HasLinkCreditsCallSlotCall.at.Symbol.code has_link_credits.HasLinkCreditsCallSlotCall.at.Symbol.name
«has_link_credits::HasLinkCreditsCallSlotCall::at» = returns has_link_credits.HasLinkCreditsCallSlotCall.at.Symbol.code (λ κs a. (tt, refl)) has_link_credits.HasLinkCreditsCallSlotCall.at.Met.met

pub «poll_request_to_send::poll_request_to_send» : Everywhere poll_request_to_send'.poll_request_to_send.signature (λ 𝓤. poll_request_to_send'.poll_request_to_send.spec) poll_request_to_send.poll_request_to_send.Symbol.code poll_request_to_send.poll_request_to_send.Symbol.name
«poll_request_to_send::poll_request_to_send» = returns poll_request_to_send.poll_request_to_send.Symbol.code (λ κs a. (tt, refl)) poll_request_to_send.poll_request_to_send.Met.met

pub «poll_request_to_send::PollRequestToSendCallSlotCall::rule» : Everywhere poll_request_to_send'.PollRequestToSendCallSlotCall.rule.signature (λ 𝓤. poll_request_to_send'.PollRequestToSendCallSlotCall.rule.spec) poll_request_to_send.PollRequestToSendCallSlotCall.rule.Symbol.code poll_request_to_send.PollRequestToSendCallSlotCall.rule.Symbol.name
«poll_request_to_send::PollRequestToSendCallSlotCall::rule» = returns poll_request_to_send.PollRequestToSendCallSlotCall.rule.Symbol.code (λ κs a. (tt, refl)) poll_request_to_send.PollRequestToSendCallSlotCall.rule.Met.met

pub «poll_request_to_send::PollRequestToSendCallSlotCall::absent» : Everywhere poll_request_to_send'.PollRequestToSendCallSlotCall.absent.signature (λ 𝓤. poll_request_to_send'.PollRequestToSendCallSlotCall.absent.spec) poll_request_to_send.PollRequestToSendCallSlotCall.absent.Symbol.code poll_request_to_send.PollRequestToSendCallSlotCall.absent.Symbol.name
«poll_request_to_send::PollRequestToSendCallSlotCall::absent» = returns poll_request_to_send.PollRequestToSendCallSlotCall.absent.Symbol.code (λ κs a. (tt, refl)) poll_request_to_send.PollRequestToSendCallSlotCall.absent.Met.met

pub «poll_request_to_send::PollRequestToSendCallSlotCall::at» : Everywhere poll_request_to_send'.PollRequestToSendCallSlotCall.at.signature (λ 𝓤. poll_request_to_send'.PollRequestToSendCallSlotCall.at.spec) poll_request_to_send.PollRequestToSendCallSlotCall.at.Symbol.code poll_request_to_send.PollRequestToSendCallSlotCall.at.Symbol.name
«poll_request_to_send::PollRequestToSendCallSlotCall::at» = returns poll_request_to_send.PollRequestToSendCallSlotCall.at.Symbol.code (λ κs a. (tt, refl)) poll_request_to_send.PollRequestToSendCallSlotCall.at.Met.met

pub «grant_end::grant_end» : Everywhere grant_end'.grant_end.signature (λ 𝓤. grant_end'.grant_end.spec) grant_end.grant_end.Symbol.code grant_end.grant_end.Symbol.name
«grant_end::grant_end» = returns grant_end.grant_end.Symbol.code (λ κs a. (tt, refl)) grant_end.grant_end.Met.met

pub «grant_end::GrantEndCallSlotCall::rule» : Everywhere grant_end'.GrantEndCallSlotCall.rule.signature (λ 𝓤. grant_end'.GrantEndCallSlotCall.rule.spec) grant_end.GrantEndCallSlotCall.rule.Symbol.code grant_end.GrantEndCallSlotCall.rule.Symbol.name
«grant_end::GrantEndCallSlotCall::rule» = returns grant_end.GrantEndCallSlotCall.rule.Symbol.code (λ κs a. (tt, refl)) grant_end.GrantEndCallSlotCall.rule.Met.met

pub «grant_end::GrantEndCallSlotCall::absent» : Everywhere grant_end'.GrantEndCallSlotCall.absent.signature (λ 𝓤. grant_end'.GrantEndCallSlotCall.absent.spec) grant_end.GrantEndCallSlotCall.absent.Symbol.code grant_end.GrantEndCallSlotCall.absent.Symbol.name
«grant_end::GrantEndCallSlotCall::absent» = returns grant_end.GrantEndCallSlotCall.absent.Symbol.code (λ κs a. (tt, refl)) grant_end.GrantEndCallSlotCall.absent.Met.met

pub «grant_end::GrantEndCallSlotCall::at» : Everywhere grant_end'.GrantEndCallSlotCall.at.signature (λ 𝓤. grant_end'.GrantEndCallSlotCall.at.spec) grant_end.GrantEndCallSlotCall.at.Symbol.code grant_end.GrantEndCallSlotCall.at.Symbol.name
«grant_end::GrantEndCallSlotCall::at» = returns grant_end.GrantEndCallSlotCall.at.Symbol.code (λ κs a. (tt, refl)) grant_end.GrantEndCallSlotCall.at.Met.met

pub «poll_acquire_acl_send_lock::poll_acquire_acl_send_lock» : Everywhere poll_acquire_acl_send_lock'.poll_acquire_acl_send_lock.signature (λ 𝓤. poll_acquire_acl_send_lock'.poll_acquire_acl_send_lock.spec) poll_acquire_acl_send_lock.poll_acquire_acl_send_lock.Symbol.code poll_acquire_acl_send_lock.poll_acquire_acl_send_lock.Symbol.name
«poll_acquire_acl_send_lock::poll_acquire_acl_send_lock» = returns poll_acquire_acl_send_lock.poll_acquire_acl_send_lock.Symbol.code (λ κs a. (tt, refl)) poll_acquire_acl_send_lock.poll_acquire_acl_send_lock.Met.met

pub «poll_acquire_acl_send_lock::PollAcquireAclSendLockCallSlotCall::rule» : Everywhere poll_acquire_acl_send_lock'.PollAcquireAclSendLockCallSlotCall.rule.signature (λ 𝓤. poll_acquire_acl_send_lock'.PollAcquireAclSendLockCallSlotCall.rule.spec) poll_acquire_acl_send_lock.PollAcquireAclSendLockCallSlotCall.rule.Symbol.code poll_acquire_acl_send_lock.PollAcquireAclSendLockCallSlotCall.rule.Symbol.name
«poll_acquire_acl_send_lock::PollAcquireAclSendLockCallSlotCall::rule» = returns poll_acquire_acl_send_lock.PollAcquireAclSendLockCallSlotCall.rule.Symbol.code (λ κs a. (tt, refl)) poll_acquire_acl_send_lock.PollAcquireAclSendLockCallSlotCall.rule.Met.met

pub «poll_acquire_acl_send_lock::PollAcquireAclSendLockCallSlotCall::absent» : Everywhere poll_acquire_acl_send_lock'.PollAcquireAclSendLockCallSlotCall.absent.signature (λ 𝓤. poll_acquire_acl_send_lock'.PollAcquireAclSendLockCallSlotCall.absent.spec) poll_acquire_acl_send_lock.PollAcquireAclSendLockCallSlotCall.absent.Symbol.code poll_acquire_acl_send_lock.PollAcquireAclSendLockCallSlotCall.absent.Symbol.name
«poll_acquire_acl_send_lock::PollAcquireAclSendLockCallSlotCall::absent» = returns poll_acquire_acl_send_lock.PollAcquireAclSendLockCallSlotCall.absent.Symbol.code (λ κs a. (tt, refl)) poll_acquire_acl_send_lock.PollAcquireAclSendLockCallSlotCall.absent.Met.met

pub «poll_acquire_acl_send_lock::PollAcquireAclSendLockCallSlotCall::at» : Everywhere poll_acquire_acl_send_lock'.PollAcquireAclSendLockCallSlotCall.at.signature (λ 𝓤. poll_acquire_acl_send_lock'.PollAcquireAclSendLockCallSlotCall.at.spec) poll_acquire_acl_send_lock.PollAcquireAclSendLockCallSlotCall.at.Symbol.code poll_acquire_acl_send_lock.PollAcquireAclSendLockCallSlotCall.at.Symbol.name
«poll_acquire_acl_send_lock::PollAcquireAclSendLockCallSlotCall::at» = returns poll_acquire_acl_send_lock.PollAcquireAclSendLockCallSlotCall.at.Symbol.code (λ κs a. (tt, refl)) poll_acquire_acl_send_lock.PollAcquireAclSendLockCallSlotCall.at.Met.met

pub «unlock_acl_send::unlock_acl_send» : Everywhere unlock_acl_send'.unlock_acl_send.signature (λ 𝓤. unlock_acl_send'.unlock_acl_send.spec) unlock_acl_send.unlock_acl_send.Symbol.code unlock_acl_send.unlock_acl_send.Symbol.name
«unlock_acl_send::unlock_acl_send» = returns unlock_acl_send.unlock_acl_send.Symbol.code (λ κs a. (tt, refl)) unlock_acl_send.unlock_acl_send.Met.met

pub «unlock_acl_send::UnlockAclSendCallSlotCall::rule» : Everywhere unlock_acl_send'.UnlockAclSendCallSlotCall.rule.signature (λ 𝓤. unlock_acl_send'.UnlockAclSendCallSlotCall.rule.spec) unlock_acl_send.UnlockAclSendCallSlotCall.rule.Symbol.code unlock_acl_send.UnlockAclSendCallSlotCall.rule.Symbol.name
«unlock_acl_send::UnlockAclSendCallSlotCall::rule» = returns unlock_acl_send.UnlockAclSendCallSlotCall.rule.Symbol.code (λ κs a. (tt, refl)) unlock_acl_send.UnlockAclSendCallSlotCall.rule.Met.met

pub «unlock_acl_send::UnlockAclSendCallSlotCall::absent» : Everywhere unlock_acl_send'.UnlockAclSendCallSlotCall.absent.signature (λ 𝓤. unlock_acl_send'.UnlockAclSendCallSlotCall.absent.spec) unlock_acl_send.UnlockAclSendCallSlotCall.absent.Symbol.code unlock_acl_send.UnlockAclSendCallSlotCall.absent.Symbol.name
«unlock_acl_send::UnlockAclSendCallSlotCall::absent» = returns unlock_acl_send.UnlockAclSendCallSlotCall.absent.Symbol.code (λ κs a. (tt, refl)) unlock_acl_send.UnlockAclSendCallSlotCall.absent.Met.met

pub «unlock_acl_send::UnlockAclSendCallSlotCall::at» : Everywhere unlock_acl_send'.UnlockAclSendCallSlotCall.at.signature (λ 𝓤. unlock_acl_send'.UnlockAclSendCallSlotCall.at.spec) unlock_acl_send.UnlockAclSendCallSlotCall.at.Symbol.code unlock_acl_send.UnlockAclSendCallSlotCall.at.Symbol.name
«unlock_acl_send::UnlockAclSendCallSlotCall::at» = returns unlock_acl_send.UnlockAclSendCallSlotCall.at.Symbol.code (λ κs a. (tt, refl)) unlock_acl_send.UnlockAclSendCallSlotCall.at.Met.met

pub «poll_request_from_pool::poll_request_from_pool» : Everywhere poll_request_from_pool'.poll_request_from_pool.signature (λ 𝓤. poll_request_from_pool'.poll_request_from_pool.spec) poll_request_from_pool.poll_request_from_pool.Symbol.code poll_request_from_pool.poll_request_from_pool.Symbol.name
«poll_request_from_pool::poll_request_from_pool» = returns poll_request_from_pool.poll_request_from_pool.Symbol.code (λ κs a. (tt, refl)) poll_request_from_pool.poll_request_from_pool.Met.met

pub «poll_request_from_pool::PollRequestFromPoolCallSlotCall::rule» : Everywhere poll_request_from_pool'.PollRequestFromPoolCallSlotCall.rule.signature (λ 𝓤. poll_request_from_pool'.PollRequestFromPoolCallSlotCall.rule.spec) poll_request_from_pool.PollRequestFromPoolCallSlotCall.rule.Symbol.code poll_request_from_pool.PollRequestFromPoolCallSlotCall.rule.Symbol.name
«poll_request_from_pool::PollRequestFromPoolCallSlotCall::rule» = returns poll_request_from_pool.PollRequestFromPoolCallSlotCall.rule.Symbol.code (λ κs a. (tt, refl)) poll_request_from_pool.PollRequestFromPoolCallSlotCall.rule.Met.met

pub «poll_request_from_pool::PollRequestFromPoolCallSlotCall::absent» : Everywhere poll_request_from_pool'.PollRequestFromPoolCallSlotCall.absent.signature (λ 𝓤. poll_request_from_pool'.PollRequestFromPoolCallSlotCall.absent.spec) poll_request_from_pool.PollRequestFromPoolCallSlotCall.absent.Symbol.code poll_request_from_pool.PollRequestFromPoolCallSlotCall.absent.Symbol.name
«poll_request_from_pool::PollRequestFromPoolCallSlotCall::absent» = returns poll_request_from_pool.PollRequestFromPoolCallSlotCall.absent.Symbol.code (λ κs a. (tt, refl)) poll_request_from_pool.PollRequestFromPoolCallSlotCall.absent.Met.met

pub «poll_request_from_pool::PollRequestFromPoolCallSlotCall::at» : Everywhere poll_request_from_pool'.PollRequestFromPoolCallSlotCall.at.signature (λ 𝓤. poll_request_from_pool'.PollRequestFromPoolCallSlotCall.at.spec) poll_request_from_pool.PollRequestFromPoolCallSlotCall.at.Symbol.code poll_request_from_pool.PollRequestFromPoolCallSlotCall.at.Symbol.name
«poll_request_from_pool::PollRequestFromPoolCallSlotCall::at» = returns poll_request_from_pool.PollRequestFromPoolCallSlotCall.at.Symbol.code (λ κs a. (tt, refl)) poll_request_from_pool.PollRequestFromPoolCallSlotCall.at.Met.met

pub «pool_returns::pool_confirm_sent» : Everywhere pool_returns'.pool_confirm_sent.signature (λ 𝓤. pool_returns'.pool_confirm_sent.spec) pool_returns.pool_confirm_sent.Symbol.code pool_returns.pool_confirm_sent.Symbol.name
«pool_returns::pool_confirm_sent» = returns pool_returns.pool_confirm_sent.Symbol.code (λ κs a. (tt, refl)) pool_returns.pool_confirm_sent.Met.met

pub «pool_returns::pool_grant_end» : Everywhere pool_returns'.pool_grant_end.signature (λ 𝓤. pool_returns'.pool_grant_end.spec) pool_returns.pool_grant_end.Symbol.code pool_returns.pool_grant_end.Symbol.name
«pool_returns::pool_grant_end» = returns pool_returns.pool_grant_end.Symbol.code (λ κs a. (tt, refl)) pool_returns.pool_grant_end.Met.met

pub «pool_returns::PoolConfirmSentCallSlotCall::rule» : Everywhere pool_returns'.PoolConfirmSentCallSlotCall.rule.signature (λ 𝓤. pool_returns'.PoolConfirmSentCallSlotCall.rule.spec) pool_returns.PoolConfirmSentCallSlotCall.rule.Symbol.code pool_returns.PoolConfirmSentCallSlotCall.rule.Symbol.name
«pool_returns::PoolConfirmSentCallSlotCall::rule» = returns pool_returns.PoolConfirmSentCallSlotCall.rule.Symbol.code (λ κs a. (tt, refl)) pool_returns.PoolConfirmSentCallSlotCall.rule.Met.met

pub «pool_returns::PoolConfirmSentCallSlotCall::absent» : Everywhere pool_returns'.PoolConfirmSentCallSlotCall.absent.signature (λ 𝓤. pool_returns'.PoolConfirmSentCallSlotCall.absent.spec) pool_returns.PoolConfirmSentCallSlotCall.absent.Symbol.code pool_returns.PoolConfirmSentCallSlotCall.absent.Symbol.name
«pool_returns::PoolConfirmSentCallSlotCall::absent» = returns pool_returns.PoolConfirmSentCallSlotCall.absent.Symbol.code (λ κs a. (tt, refl)) pool_returns.PoolConfirmSentCallSlotCall.absent.Met.met

pub «pool_returns::PoolConfirmSentCallSlotCall::at» : Everywhere pool_returns'.PoolConfirmSentCallSlotCall.at.signature (λ 𝓤. pool_returns'.PoolConfirmSentCallSlotCall.at.spec) pool_returns.PoolConfirmSentCallSlotCall.at.Symbol.code pool_returns.PoolConfirmSentCallSlotCall.at.Symbol.name
«pool_returns::PoolConfirmSentCallSlotCall::at» = returns pool_returns.PoolConfirmSentCallSlotCall.at.Symbol.code (λ κs a. (tt, refl)) pool_returns.PoolConfirmSentCallSlotCall.at.Met.met

pub «pool_returns::PoolGrantEndCallSlotCall::rule» : Everywhere pool_returns'.PoolGrantEndCallSlotCall.rule.signature (λ 𝓤. pool_returns'.PoolGrantEndCallSlotCall.rule.spec) pool_returns.PoolGrantEndCallSlotCall.rule.Symbol.code pool_returns.PoolGrantEndCallSlotCall.rule.Symbol.name
«pool_returns::PoolGrantEndCallSlotCall::rule» = returns pool_returns.PoolGrantEndCallSlotCall.rule.Symbol.code (λ κs a. (tt, refl)) pool_returns.PoolGrantEndCallSlotCall.rule.Met.met

pub «pool_returns::PoolGrantEndCallSlotCall::absent» : Everywhere pool_returns'.PoolGrantEndCallSlotCall.absent.signature (λ 𝓤. pool_returns'.PoolGrantEndCallSlotCall.absent.spec) pool_returns.PoolGrantEndCallSlotCall.absent.Symbol.code pool_returns.PoolGrantEndCallSlotCall.absent.Symbol.name
«pool_returns::PoolGrantEndCallSlotCall::absent» = returns pool_returns.PoolGrantEndCallSlotCall.absent.Symbol.code (λ κs a. (tt, refl)) pool_returns.PoolGrantEndCallSlotCall.absent.Met.met

pub «pool_returns::PoolGrantEndCallSlotCall::at» : Everywhere pool_returns'.PoolGrantEndCallSlotCall.at.signature (λ 𝓤. pool_returns'.PoolGrantEndCallSlotCall.at.spec) pool_returns.PoolGrantEndCallSlotCall.at.Symbol.code pool_returns.PoolGrantEndCallSlotCall.at.Symbol.name
«pool_returns::PoolGrantEndCallSlotCall::at» = returns pool_returns.PoolGrantEndCallSlotCall.at.Symbol.code (λ κs a. (tt, refl)) pool_returns.PoolGrantEndCallSlotCall.at.Met.met

pub «calls::run_call_in» : Everywhere calls'.run_call_in.signature (λ 𝓤. calls'.run_call_in.spec) calls.run_call_in.Symbol.code calls.run_call_in.Symbol.name
«calls::run_call_in» = returns calls.run_call_in.Symbol.code (λ κs a. (tt, refl)) calls.run_call_in.Met.met

pub «calls::run_call» : Everywhere calls'.run_call.signature (λ 𝓤. calls'.run_call.spec) calls.run_call.Symbol.code calls.run_call.Symbol.name
«calls::run_call» = returns calls.run_call.Symbol.code (λ κs a. (tt, refl)) calls.run_call.Met.met

pub «calls::CallAnswerClone::clone» : Everywhere calls'.CallAnswerClone.clone.signature (λ 𝓤. calls'.CallAnswerClone.clone.spec) calls.CallAnswerClone.clone.Symbol.code calls.CallAnswerClone.clone.Symbol.name
«calls::CallAnswerClone::clone» = returns calls.CallAnswerClone.clone.Symbol.code (λ κs a. (tt, refl)) calls.CallAnswerClone.clone.Met.met

pub «calls::CallOutcomeClone::clone» : Everywhere calls'.CallOutcomeClone.clone.signature (λ 𝓤. calls'.CallOutcomeClone.clone.spec) calls.CallOutcomeClone.clone.Symbol.code calls.CallOutcomeClone.clone.Symbol.name
«calls::CallOutcomeClone::clone» = returns calls.CallOutcomeClone.clone.Symbol.code (λ κs a. (tt, refl)) calls.CallOutcomeClone.clone.Met.met

pub «calls::CallLookClone::clone» : Everywhere calls'.CallLookClone.clone.signature (λ 𝓤. calls'.CallLookClone.clone.spec) calls.CallLookClone.clone.Symbol.code calls.CallLookClone.clone.Symbol.name
«calls::CallLookClone::clone» = returns calls.CallLookClone.clone.Symbol.code (λ κs a. (tt, refl)) calls.CallLookClone.clone.Met.met

pub «peer_records::is_file» : Everywhere peer_records'.is_file.signature (λ 𝓤. peer_records'.is_file.spec) peer_records.is_file.Symbol.code peer_records.is_file.Symbol.name
«peer_records::is_file» = returns peer_records.is_file.Symbol.code (λ κs a. (tt, refl)) peer_records.is_file.Met.met

pub «peer_records::records_fit» : Everywhere peer_records'.records_fit.signature (λ 𝓤. peer_records'.records_fit.spec) peer_records.records_fit.Symbol.code peer_records.records_fit.Symbol.name
«peer_records::records_fit» = returns peer_records.records_fit.Symbol.code (λ κs a. (tt, refl)) peer_records.records_fit.Met.met

pub «peer_records::in_force» : Everywhere peer_records'.in_force.signature (λ 𝓤. peer_records'.in_force.spec) peer_records.in_force.Symbol.code peer_records.in_force.Symbol.name
«peer_records::in_force» = returns peer_records.in_force.Symbol.code (λ κs a. (tt, refl)) peer_records.in_force.Met.met

pub «accept_recorded::poll_accept_recorded» : Everywhere accept_recorded'.poll_accept_recorded.signature (λ 𝓤. accept_recorded'.poll_accept_recorded.spec) accept_recorded.poll_accept_recorded.Symbol.code accept_recorded.poll_accept_recorded.Symbol.name
«accept_recorded::poll_accept_recorded» = returns accept_recorded.poll_accept_recorded.Symbol.code (λ κs a. (tt, refl)) accept_recorded.poll_accept_recorded.Met.met

pub «accept_recorded::RecordedPeersPeerSet::contains» : Everywhere accept_recorded'.RecordedPeersPeerSet.contains.signature (λ 𝓤. accept_recorded'.RecordedPeersPeerSet.contains.spec) accept_recorded.RecordedPeersPeerSet.contains.Symbol.code accept_recorded.RecordedPeersPeerSet.contains.Symbol.name
«accept_recorded::RecordedPeersPeerSet::contains» = returns accept_recorded.RecordedPeersPeerSet.contains.Symbol.code (λ κs a. (tt, refl)) accept_recorded.RecordedPeersPeerSet.contains.Met.met

pub «limits::within» : Everywhere limits'.within.signature (λ 𝓤. limits'.within.spec) limits.within.Symbol.code limits.within.Symbol.name
«limits::within» = returns limits.within.Symbol.code (λ κs a. (tt, refl)) limits.within.Met.met

pub «wire::byte_at» : Everywhere wire'.byte_at.signature (λ 𝓤. wire'.byte_at.spec) wire.byte_at.Symbol.code wire.byte_at.Symbol.name
«wire::byte_at» = returns wire.byte_at.Symbol.code (λ κs a. (tt, refl)) wire.byte_at.Met.met

pub «wire::u16_at» : Everywhere wire'.u16_at.signature (λ 𝓤. wire'.u16_at.spec) wire.u16_at.Symbol.code wire.u16_at.Symbol.name
«wire::u16_at» = returns wire.u16_at.Symbol.code (λ κs a. (tt, refl)) wire.u16_at.Met.met

pub «wire::low_byte» : Everywhere wire'.low_byte.signature (λ 𝓤. wire'.low_byte.spec) wire.low_byte.Symbol.code wire.low_byte.Symbol.name
«wire::low_byte» = returns wire.low_byte.Symbol.code (λ κs a. (tt, refl)) wire.low_byte.Met.met

pub «wire::high_byte» : Everywhere wire'.high_byte.signature (λ 𝓤. wire'.high_byte.spec) wire.high_byte.Symbol.code wire.high_byte.Symbol.name
«wire::high_byte» = returns wire.high_byte.Symbol.code (λ κs a. (tt, refl)) wire.high_byte.Met.met

pub «wire::put» : Everywhere wire'.put.signature (λ 𝓤. wire'.put.spec) wire.put.Symbol.code wire.put.Symbol.name
«wire::put» = returns wire.put.Symbol.code (λ κs a. (tt, refl)) wire.put.Met.met

pub «hci::HciEvent::of_form» : Everywhere hci'.HciEvent.of_form.signature (λ 𝓤. hci'.HciEvent.of_form.spec) hci.HciEvent.of_form.Symbol.code hci.HciEvent.of_form.Symbol.name
«hci::HciEvent::of_form» = returns hci.HciEvent.of_form.Symbol.code (λ κs a. (tt, refl)) hci.HciEvent.of_form.Met.met

pub «hci_read::read» : Everywhere hci_read'.read.signature (λ 𝓤. hci_read'.read.spec) hci_read.read.Symbol.code hci_read.read.Symbol.name
«hci_read::read» = returns hci_read.read.Symbol.code (λ κs a. (tt, refl)) hci_read.read.Met.met

pub «hci_write::write» : Everywhere hci_write'.write.signature (λ 𝓤. hci_write'.write.spec) hci_write.write.Symbol.code hci_write.write.Symbol.name
«hci_write::write» = returns hci_write.write.Symbol.code (λ κs a. (tt, refl)) hci_write.write.Met.met

pub «completed_packets::pair_in» : Everywhere completed_packets'.pair_in.signature (λ 𝓤. completed_packets'.pair_in.spec) completed_packets.pair_in.Symbol.code completed_packets.pair_in.Symbol.name
«completed_packets::pair_in» = returns completed_packets.pair_in.Symbol.code (λ κs a. (tt, refl)) completed_packets.pair_in.Met.met

pub «completed_packets::read» : Everywhere completed_packets'.read.signature (λ 𝓤. completed_packets'.read.spec) completed_packets.read.Symbol.code completed_packets.read.Symbol.name
«completed_packets::read» = returns completed_packets.read.Symbol.code (λ κs a. (tt, refl)) completed_packets.read.Met.met

pub «completed_packets::pair_at» : Everywhere completed_packets'.pair_at.signature (λ 𝓤. completed_packets'.pair_at.spec) completed_packets.pair_at.Symbol.code completed_packets.pair_at.Symbol.name
«completed_packets::pair_at» = returns completed_packets.pair_at.Symbol.code (λ κs a. (tt, refl)) completed_packets.pair_at.Met.met

pub «completed_packets_write::write» : Everywhere completed_packets_write'.write.signature (λ 𝓤. completed_packets_write'.write.spec) completed_packets_write.write.Symbol.code completed_packets_write.write.Symbol.name
«completed_packets_write::write» = returns completed_packets_write.write.Symbol.code (λ κs a. (tt, refl)) completed_packets_write.write.Met.met

pub «completed_packets_write::write_columns» : Everywhere completed_packets_write'.write_columns.signature (λ 𝓤. completed_packets_write'.write_columns.spec) completed_packets_write.write_columns.Symbol.code completed_packets_write.write_columns.Symbol.name
«completed_packets_write::write_columns» = returns completed_packets_write.write_columns.Symbol.code (λ κs a. (tt, refl)) completed_packets_write.write_columns.Met.met

pub «att_pdu::read» : Everywhere att_pdu'.read.signature (λ 𝓤. att_pdu'.read.spec) att_pdu.read.Symbol.code att_pdu.read.Symbol.name
«att_pdu::read» = returns att_pdu.read.Symbol.code (λ κs a. (tt, refl)) att_pdu.read.Met.met

pub «att_pdu::indication_value» : Everywhere att_pdu'.indication_value.signature (λ 𝓤. att_pdu'.indication_value.spec) att_pdu.indication_value.Symbol.code att_pdu.indication_value.Symbol.name
«att_pdu::indication_value» = returns att_pdu.indication_value.Symbol.code (λ κs a. (tt, refl)) att_pdu.indication_value.Met.met

pub «att_pdu_write::write» : Everywhere att_pdu_write'.write.signature (λ 𝓤. att_pdu_write'.write.spec) att_pdu_write.write.Symbol.code att_pdu_write.write.Symbol.name
«att_pdu_write::write» = returns att_pdu_write.write.Symbol.code (λ κs a. (tt, refl)) att_pdu_write.write.Met.met

pub «att_pdu_write::write_handle_value_ind» : Everywhere att_pdu_write'.write_handle_value_ind.signature (λ 𝓤. att_pdu_write'.write_handle_value_ind.spec) att_pdu_write.write_handle_value_ind.Symbol.code att_pdu_write.write_handle_value_ind.Symbol.name
«att_pdu_write::write_handle_value_ind» = returns att_pdu_write.write_handle_value_ind.Symbol.code (λ κs a. (tt, refl)) att_pdu_write.write_handle_value_ind.Met.met

pub «woken_set::WokenSet::new» : Everywhere woken_set'.WokenSet.new.signature (λ 𝓤. woken_set'.WokenSet.new.spec) woken_set.WokenSet.new.Symbol.code woken_set.WokenSet.new.Symbol.name
«woken_set::WokenSet::new» = returns woken_set.WokenSet.new.Symbol.code (λ κs a. (tt, refl)) woken_set.WokenSet.new.Met.met

pub «woken_set::WokenSet::add» : Everywhere woken_set'.WokenSet.add.signature (λ 𝓤. woken_set'.WokenSet.add.spec) woken_set.WokenSet.add.Symbol.code woken_set.WokenSet.add.Symbol.name
«woken_set::WokenSet::add» = returns woken_set.WokenSet.add.Symbol.code (λ κs a. (tt, refl)) woken_set.WokenSet.add.Met.met

pub «woken_set::WokenSet::join» : Everywhere woken_set'.WokenSet.join.signature (λ 𝓤. woken_set'.WokenSet.join.spec) woken_set.WokenSet.join.Symbol.code woken_set.WokenSet.join.Symbol.name
«woken_set::WokenSet::join» = returns woken_set.WokenSet.join.Symbol.code (λ κs a. (tt, refl)) woken_set.WokenSet.join.Met.met

pub «host_event::received_event» : Everywhere host_event'.received_event.signature (λ 𝓤. host_event'.received_event.spec) host_event.received_event.Symbol.code host_event.received_event.Symbol.name
«host_event::received_event» = returns host_event.received_event.Symbol.code (λ κs a. (tt, refl)) host_event.received_event.Met.met

pub «host_event::EventGivesFromCallUnit::from_call» : Everywhere host_event'.EventGivesFromCallUnit.from_call.signature (λ 𝓤. host_event'.EventGivesFromCallUnit.from_call.spec) host_event.EventGivesFromCallUnit.from_call.Symbol.code host_event.EventGivesFromCallUnit.from_call.Symbol.name
«host_event::EventGivesFromCallUnit::from_call» = returns host_event.EventGivesFromCallUnit.from_call.Symbol.code (λ κs a. (tt, refl)) host_event.EventGivesFromCallUnit.from_call.Met.met

pub «host_pairs::received_pairs» : Everywhere host_pairs'.received_pairs.signature (λ 𝓤. host_pairs'.received_pairs.spec) host_pairs.received_pairs.Symbol.code host_pairs.received_pairs.Symbol.name
«host_pairs::received_pairs» = returns host_pairs.received_pairs.Symbol.code (λ κs a. (tt, refl)) host_pairs.received_pairs.Met.met

pub «host::received» : Everywhere host'.received.signature (λ 𝓤. host'.received.spec) host.received.Symbol.code host.received.Symbol.name
«host::received» = returns host.received.Symbol.code (λ κs a. (tt, refl)) host.received.Met.met

pub «host_att::received_att» : Everywhere host_att'.received_att.signature (λ 𝓤. host_att'.received_att.spec) host_att.received_att.Symbol.code host_att.received_att.Symbol.name
«host_att::received_att» = returns host_att.received_att.Symbol.code (λ κs a. (tt, refl)) host_att.received_att.Met.met

pub «host_att::AttGivesFromCallU16::from_call» : Everywhere host_att'.AttGivesFromCallU16.from_call.signature (λ 𝓤. host_att'.AttGivesFromCallU16.from_call.spec) host_att.AttGivesFromCallU16.from_call.Symbol.code host_att.AttGivesFromCallU16.from_call.Symbol.name
«host_att::AttGivesFromCallU16::from_call» = returns host_att.AttGivesFromCallU16.from_call.Symbol.code (λ κs a. (tt, refl)) host_att.AttGivesFromCallU16.from_call.Met.met

pub «host_att::AttGivesFromCallUnit::from_call» : Everywhere host_att'.AttGivesFromCallUnit.from_call.signature (λ 𝓤. host_att'.AttGivesFromCallUnit.from_call.spec) host_att.AttGivesFromCallUnit.from_call.Symbol.code host_att.AttGivesFromCallUnit.from_call.Symbol.name
«host_att::AttGivesFromCallUnit::from_call» = returns host_att.AttGivesFromCallUnit.from_call.Symbol.code (λ κs a. (tt, refl)) host_att.AttGivesFromCallUnit.from_call.Met.met

pub «roster::roster» : Everywhere roster'.roster.signature (λ 𝓤. roster'.roster.spec) roster.roster.Symbol.code roster.roster.Symbol.name
«roster::roster» = returns roster.roster.Symbol.code (λ κs a. (tt, refl)) roster.roster.Met.met

pub «big_endian::u64_at» : Everywhere big_endian'.u64_at.signature (λ 𝓤. big_endian'.u64_at.spec) big_endian.u64_at.Symbol.code big_endian.u64_at.Symbol.name
«big_endian::u64_at» = returns big_endian.u64_at.Symbol.code (λ κs a. (tt, refl)) big_endian.u64_at.Met.met

pub «big_endian::u32_at» : Everywhere big_endian'.u32_at.signature (λ 𝓤. big_endian'.u32_at.spec) big_endian.u32_at.Symbol.code big_endian.u32_at.Symbol.name
«big_endian::u32_at» = returns big_endian.u32_at.Symbol.code (λ κs a. (tt, refl)) big_endian.u32_at.Met.met

pub «big_endian_write::put_number» : Everywhere big_endian_write'.put_number.signature (λ 𝓤. big_endian_write'.put_number.spec) big_endian_write.put_number.Symbol.code big_endian_write.put_number.Symbol.name
«big_endian_write::put_number» = returns big_endian_write.put_number.Symbol.code (λ κs a. (tt, refl)) big_endian_write.put_number.Met.met

pub «big_endian_write::put_bytes» : Everywhere big_endian_write'.put_bytes.signature (λ 𝓤. big_endian_write'.put_bytes.spec) big_endian_write.put_bytes.Symbol.code big_endian_write.put_bytes.Symbol.name
«big_endian_write::put_bytes» = returns big_endian_write.put_bytes.Symbol.code (λ κs a. (tt, refl)) big_endian_write.put_bytes.Met.met

pub «btsnoop_read::is_header» : Everywhere btsnoop_read'.is_header.signature (λ 𝓤. btsnoop_read'.is_header.spec) btsnoop_read.is_header.Symbol.code btsnoop_read.is_header.Symbol.name
«btsnoop_read::is_header» = returns btsnoop_read.is_header.Symbol.code (λ κs a. (tt, refl)) btsnoop_read.is_header.Met.met

pub «btsnoop_read::is_whole» : Everywhere btsnoop_read'.is_whole.signature (λ 𝓤. btsnoop_read'.is_whole.spec) btsnoop_read.is_whole.Symbol.code btsnoop_read.is_whole.Symbol.name
«btsnoop_read::is_whole» = returns btsnoop_read.is_whole.Symbol.code (λ κs a. (tt, refl)) btsnoop_read.is_whole.Met.met

pub «btsnoop_read::head_at» : Everywhere btsnoop_read'.head_at.signature (λ 𝓤. btsnoop_read'.head_at.spec) btsnoop_read.head_at.Symbol.code btsnoop_read.head_at.Symbol.name
«btsnoop_read::head_at» = returns btsnoop_read.head_at.Symbol.code (λ κs a. (tt, refl)) btsnoop_read.head_at.Met.met

pub «btsnoop_read::record_at» : Everywhere btsnoop_read'.record_at.signature (λ 𝓤. btsnoop_read'.record_at.spec) btsnoop_read.record_at.Symbol.code btsnoop_read.record_at.Symbol.name
«btsnoop_read::record_at» = returns btsnoop_read.record_at.Symbol.code (λ κs a. (tt, refl)) btsnoop_read.record_at.Met.met

pub «btsnoop_put::put_header» : Everywhere btsnoop_put'.put_header.signature (λ 𝓤. btsnoop_put'.put_header.spec) btsnoop_put.put_header.Symbol.code btsnoop_put.put_header.Symbol.name
«btsnoop_put::put_header» = returns btsnoop_put.put_header.Symbol.code (λ κs a. (tt, refl)) btsnoop_put.put_header.Met.met

pub «btsnoop_put::put_record» : Everywhere btsnoop_put'.put_record.signature (λ 𝓤. btsnoop_put'.put_record.spec) btsnoop_put.put_record.Symbol.code btsnoop_put.put_record.Symbol.name
«btsnoop_put::put_record» = returns btsnoop_put.put_record.Symbol.code (λ κs a. (tt, refl)) btsnoop_put.put_record.Met.met

pub «btsnoop_write::is_read» : Everywhere btsnoop_write'.is_read.signature (λ 𝓤. btsnoop_write'.is_read.spec) btsnoop_write.is_read.Symbol.code btsnoop_write.is_read.Symbol.name
«btsnoop_write::is_read» = returns btsnoop_write.is_read.Symbol.code (λ κs a. (tt, refl)) btsnoop_write.is_read.Met.met

pub «btsnoop_write::write» : Everywhere btsnoop_write'.write.signature (λ 𝓤. btsnoop_write'.write.spec) btsnoop_write.write.Symbol.code btsnoop_write.write.Symbol.name
«btsnoop_write::write» = returns btsnoop_write.write.Symbol.code (λ κs a. (tt, refl)) btsnoop_write.write.Met.met

pub «btsnoop_write::write_columns» : Everywhere btsnoop_write'.write_columns.signature (λ 𝓤. btsnoop_write'.write_columns.spec) btsnoop_write.write_columns.Symbol.code btsnoop_write.write_columns.Symbol.name
«btsnoop_write::write_columns» = returns btsnoop_write.write_columns.Symbol.code (λ κs a. (tt, refl)) btsnoop_write.write_columns.Met.met

pub «btsnoop_measure::measure_all» : Everywhere btsnoop_measure'.measure_all.signature (λ 𝓤. btsnoop_measure'.measure_all.spec) btsnoop_measure.measure_all.Symbol.code btsnoop_measure.measure_all.Symbol.name
«btsnoop_measure::measure_all» = returns btsnoop_measure.measure_all.Symbol.code (λ κs a. (tt, refl)) btsnoop_measure.measure_all.Met.met

pub «to_columns::to_columns» : Everywhere to_columns'.to_columns.signature (λ 𝓤. to_columns'.to_columns.spec) to_columns.to_columns.Symbol.code to_columns.to_columns.Symbol.name
«to_columns::to_columns» = returns to_columns.to_columns.Symbol.code (λ κs a. (tt, refl)) to_columns.to_columns.Met.met

pub «from_columns::from_columns» : Everywhere from_columns'.from_columns.signature (λ 𝓤. from_columns'.from_columns.spec) from_columns.from_columns.Symbol.code from_columns.from_columns.Symbol.name
«from_columns::from_columns» = returns from_columns.from_columns.Symbol.code (λ κs a. (tt, refl)) from_columns.from_columns.Met.met

pub «host_record::received_record» : Everywhere host_record'.received_record.signature (λ 𝓤. host_record'.received_record.spec) host_record.received_record.Symbol.code host_record.received_record.Symbol.name
«host_record::received_record» = returns host_record.received_record.Symbol.code (λ κs a. (tt, refl)) host_record.received_record.Met.met

pub «host_recording::replay_recording» : Everywhere host_recording'.replay_recording.signature (λ 𝓤. host_recording'.replay_recording.spec) host_recording.replay_recording.Symbol.code host_recording.replay_recording.Symbol.name
«host_recording::replay_recording» = returns host_recording.replay_recording.Symbol.code (λ κs a. (tt, refl)) host_recording.replay_recording.Met.met

pub «text::put» : Everywhere text'.put.signature (λ 𝓤. text'.put.spec) text.put.Symbol.code text.put.Symbol.name
«text::put» = returns text.put.Symbol.code (λ κs a. (tt, refl)) text.put.Met.met

pub «text::put_all» : Everywhere text'.put_all.signature (λ 𝓤. text'.put_all.spec) text.put_all.Symbol.code text.put_all.Symbol.name
«text::put_all» = returns text.put_all.Symbol.code (λ κs a. (tt, refl)) text.put_all.Met.met

pub «text::put_hex» : Everywhere text'.put_hex.signature (λ 𝓤. text'.put_hex.spec) text.put_hex.Symbol.code text.put_hex.Symbol.name
«text::put_hex» = returns text.put_hex.Symbol.code (λ κs a. (tt, refl)) text.put_hex.Met.met

pub «text_read::number_at» : Everywhere text_read'.number_at.signature (λ 𝓤. text_read'.number_at.spec) text_read.number_at.Symbol.code text_read.number_at.Symbol.name
«text_read::number_at» = returns text_read.number_at.Symbol.code (λ κs a. (tt, refl)) text_read.number_at.Met.met

pub «text_read::bytes_at» : Everywhere text_read'.bytes_at.signature (λ 𝓤. text_read'.bytes_at.spec) text_read.bytes_at.Symbol.code text_read.bytes_at.Symbol.name
«text_read::bytes_at» = returns text_read.bytes_at.Symbol.code (λ κs a. (tt, refl)) text_read.bytes_at.Met.met

pub «number_text::put_number» : Everywhere number_text'.put_number.signature (λ 𝓤. number_text'.put_number.spec) number_text.put_number.Symbol.code number_text.put_number.Symbol.name
«number_text::put_number» = returns number_text.put_number.Symbol.code (λ κs a. (tt, refl)) number_text.put_number.Met.met

pub «number_text::put_behind» : Everywhere number_text'.put_behind.signature (λ 𝓤. number_text'.put_behind.spec) number_text.put_behind.Symbol.code number_text.put_behind.Symbol.name
«number_text::put_behind» = returns number_text.put_behind.Symbol.code (λ κs a. (tt, refl)) number_text.put_behind.Met.met

pub «number_text::put_numbers» : Everywhere number_text'.put_numbers.signature (λ 𝓤. number_text'.put_numbers.spec) number_text.put_numbers.Symbol.code number_text.put_numbers.Symbol.name
«number_text::put_numbers» = returns number_text.put_numbers.Symbol.code (λ κs a. (tt, refl)) number_text.put_numbers.Met.met

pub «number_text::bit» : Everywhere number_text'.bit.signature (λ 𝓤. number_text'.bit.spec) number_text.bit.Symbol.code number_text.bit.Symbol.name
«number_text::bit» = returns number_text.bit.Symbol.code (λ κs a. (tt, refl)) number_text.bit.Met.met

pub «number_text::put_flag» : Everywhere number_text'.put_flag.signature (λ 𝓤. number_text'.put_flag.spec) number_text.put_flag.Symbol.code number_text.put_flag.Symbol.name
«number_text::put_flag» = returns number_text.put_flag.Symbol.code (λ κs a. (tt, refl)) number_text.put_flag.Met.met

pub «woken_text::put_woken» : Everywhere woken_text'.put_woken.signature (λ 𝓤. woken_text'.put_woken.spec) woken_text.put_woken.Symbol.code woken_text.put_woken.Symbol.name
«woken_text::put_woken» = returns woken_text.put_woken.Symbol.code (λ κs a. (tt, refl)) woken_text.put_woken.Met.met

pub «event_text::put_event» : Everywhere event_text'.put_event.signature (λ 𝓤. event_text'.put_event.spec) event_text.put_event.Symbol.code event_text.put_event.Symbol.name
«event_text::put_event» = returns event_text.put_event.Symbol.code (λ κs a. (tt, refl)) event_text.put_event.Met.met

pub «event_text::put_queue» : Everywhere event_text'.put_queue.signature (λ 𝓤. event_text'.put_queue.spec) event_text.put_queue.Symbol.code event_text.put_queue.Symbol.name
«event_text::put_queue» = returns event_text.put_queue.Symbol.code (λ κs a. (tt, refl)) event_text.put_queue.Met.met

pub «slot_text::put_slot» : Everywhere slot_text'.put_slot.signature (λ 𝓤. slot_text'.put_slot.spec) slot_text.put_slot.Symbol.code slot_text.put_slot.Symbol.name
«slot_text::put_slot» = returns slot_text.put_slot.Symbol.code (λ κs a. (tt, refl)) slot_text.put_slot.Met.met

pub «table_text::put_table» : Everywhere table_text'.put_table.signature (λ 𝓤. table_text'.put_table.spec) table_text.put_table.Symbol.code table_text.put_table.Symbol.name
«table_text::put_table» = returns table_text.put_table.Symbol.code (λ κs a. (tt, refl)) table_text.put_table.Met.met

pub «program_io::find» : Everywhere program_io'.find.signature (λ 𝓤. program_io'.find.spec) program_io.find.Symbol.code program_io.find.Symbol.name
«program_io::find» = returns program_io.find.Symbol.code (λ κs a. (tt, refl)) program_io.find.Met.met

pub «program_io::path_of» : Everywhere program_io'.path_of.signature (λ 𝓤. program_io'.path_of.spec) program_io.path_of.Symbol.code program_io.path_of.Symbol.name
«program_io::path_of» = returns program_io.path_of.Symbol.code (λ κs a. (tt, refl)) program_io.path_of.Met.met

pub «program_io::put_reason» : Everywhere program_io'.put_reason.signature (λ 𝓤. program_io'.put_reason.spec) program_io.put_reason.Symbol.code program_io.put_reason.Symbol.name
«program_io::put_reason» = returns program_io.put_reason.Symbol.code (λ κs a. (tt, refl)) program_io.put_reason.Met.met
