-- Demand 1 in one program: that of all libraries but those that use one of the kit's. It has the code of every public function of
-- theirs, so the routine of each ends there on every argument that its types hold. Made by tools/routines. Assumes nothing.
use Rattle.std.specs.Prelude.{refl, [], ◌∷◌}
use lib.Chars.{codes}
use mathlib.Core.Bool.{true}
use prog.Linked.{World, in_world}
use prog.LinkedThreads.{HasT, tie_t}
use prog.Wired.{Wired}
use Rattle.machine.specs.Returns.{Returns, in_program}
use Rattle.isolation.specs.Machine.{HasCode}
use Rattle.routines.specs.Routines as everywhere
use Rattle.refusal.specs.contracts as refusal'
use Rattle.refusal.proofs as refusal
use Rattle.state.specs.contracts as state'
use Rattle.state.proofs as state
use Rattle.event_queue.specs.contracts as event_queue'
use Rattle.event_queue.proofs as event_queue
use Rattle.turn.specs.contracts as turn'
use Rattle.turn.proofs as turn
use Rattle.pool.specs.contracts as pool'
use Rattle.pool.proofs as pool
use Rattle.slot.specs.contracts as slot'
use Rattle.slot.proofs as slot
use Rattle.rule.specs.contracts as rule'
use Rattle.rule.proofs as rule
use Rattle.search.specs.contracts as search'
use Rattle.search.proofs as search
use Rattle.table.specs.contracts as table'
use Rattle.table.proofs as table
use Rattle.slot_call.specs.contracts as slot_call'
use Rattle.slot_call.proofs as slot_call
use Rattle.inc_ref.specs.contracts as inc_ref'
use Rattle.inc_ref.proofs as inc_ref
use Rattle.dec_ref.specs.contracts as dec_ref'
use Rattle.dec_ref.proofs as dec_ref
use Rattle.connect.specs.contracts as connect'
use Rattle.connect.proofs as connect
use Rattle.lookup.specs.contracts as lookup'
use Rattle.lookup.proofs as lookup
use Rattle.accept.specs.contracts as accept'
use Rattle.accept.proofs as accept
use Rattle.accept_sixteen.specs.contracts as accept_sixteen'
use Rattle.accept_sixteen.proofs as accept_sixteen
use Rattle.packet_grant.specs.contracts as packet_grant'
use Rattle.packet_grant.proofs as packet_grant
use Rattle.request_disconnect.specs.contracts as request_disconnect'
use Rattle.request_disconnect.proofs as request_disconnect
use Rattle.poll_disconnecting.specs.contracts as poll_disconnecting'
use Rattle.poll_disconnecting.proofs as poll_disconnecting
use Rattle.withdraw_disconnect.specs.contracts as withdraw_disconnect'
use Rattle.withdraw_disconnect.proofs as withdraw_disconnect
use Rattle.confirm.specs.contracts as confirm'
use Rattle.confirm.proofs as confirm
use Rattle.disconnected.specs.contracts as disconnected'
use Rattle.disconnected.proofs as disconnected
use Rattle.att_mtu.specs.contracts as att_mtu'
use Rattle.att_mtu.proofs as att_mtu
use Rattle.negotiated_mtu.specs.contracts as negotiated_mtu'
use Rattle.negotiated_mtu.proofs as negotiated_mtu
use Rattle.signal_indication_confirmation.specs.contracts as signal_indication_confirmation'
use Rattle.signal_indication_confirmation.proofs as signal_indication_confirmation
use Rattle.wait_indication_confirmation.specs.contracts as wait_indication_confirmation'
use Rattle.wait_indication_confirmation.proofs as wait_indication_confirmation
use Rattle.post_handle_event.specs.contracts as post_handle_event'
use Rattle.post_handle_event.proofs as post_handle_event
use Rattle.next.specs.contracts as next'
use Rattle.next.proofs as next
use Rattle.acquire_indication_slot.specs.contracts as acquire_indication_slot'
use Rattle.acquire_indication_slot.proofs as acquire_indication_slot
use Rattle.release_indication_slot.specs.contracts as release_indication_slot'
use Rattle.release_indication_slot.proofs as release_indication_slot
use Rattle.all_credits.specs.contracts as all_credits'
use Rattle.all_credits.proofs as all_credits
use Rattle.total_lost.specs.contracts as total_lost'
use Rattle.total_lost.proofs as total_lost
use Rattle.confirm_sent.specs.contracts as confirm_sent'
use Rattle.confirm_sent.proofs as confirm_sent
use Rattle.has_link_credits.specs.contracts as has_link_credits'
use Rattle.has_link_credits.proofs as has_link_credits
use Rattle.poll_request_to_send.specs.contracts as poll_request_to_send'
use Rattle.poll_request_to_send.proofs as poll_request_to_send
use Rattle.grant_end.specs.contracts as grant_end'
use Rattle.grant_end.proofs as grant_end
use Rattle.poll_acquire_acl_send_lock.specs.contracts as poll_acquire_acl_send_lock'
use Rattle.poll_acquire_acl_send_lock.proofs as poll_acquire_acl_send_lock
use Rattle.unlock_acl_send.specs.contracts as unlock_acl_send'
use Rattle.unlock_acl_send.proofs as unlock_acl_send
use Rattle.poll_request_from_pool.specs.contracts as poll_request_from_pool'
use Rattle.poll_request_from_pool.proofs as poll_request_from_pool
use Rattle.pool_returns.specs.contracts as pool_returns'
use Rattle.pool_returns.proofs as pool_returns
use Rattle.calls.specs.contracts as calls'
use Rattle.calls.proofs as calls
use Rattle.limits.specs.contracts as limits'
use Rattle.limits.proofs as limits
use Rattle.wire.specs.contracts as wire'
use Rattle.wire.proofs as wire
use Rattle.peer_records.specs.contracts as peer_records'
use Rattle.peer_records.proofs as peer_records
use Rattle.accept_recorded.specs.contracts as accept_recorded'
use Rattle.accept_recorded.proofs as accept_recorded
use Rattle.hci.specs.contracts as hci'
use Rattle.hci.proofs as hci
use Rattle.hci_read.specs.contracts as hci_read'
use Rattle.hci_read.proofs as hci_read
use Rattle.hci_write.specs.contracts as hci_write'
use Rattle.hci_write.proofs as hci_write
use Rattle.completed_packets.specs.contracts as completed_packets'
use Rattle.completed_packets.proofs as completed_packets
use Rattle.completed_packets_write.specs.contracts as completed_packets_write'
use Rattle.completed_packets_write.proofs as completed_packets_write
use Rattle.att_pdu.specs.contracts as att_pdu'
use Rattle.att_pdu.proofs as att_pdu
use Rattle.att_pdu_write.specs.contracts as att_pdu_write'
use Rattle.att_pdu_write.proofs as att_pdu_write
use Rattle.woken_set.specs.contracts as woken_set'
use Rattle.woken_set.proofs as woken_set
use Rattle.received.specs.contracts as received'
use Rattle.received.proofs as received
use Rattle.host_event.specs.contracts as host_event'
use Rattle.host_event.proofs as host_event
use Rattle.host_pairs.specs.contracts as host_pairs'
use Rattle.host_pairs.proofs as host_pairs
use Rattle.host.specs.contracts as host'
use Rattle.host.proofs as host
use Rattle.host_att.specs.contracts as host_att'
use Rattle.host_att.proofs as host_att
use Rattle.roster.specs.contracts as roster'
use Rattle.roster.proofs as roster
use Rattle.big_endian.specs.contracts as big_endian'
use Rattle.big_endian.proofs as big_endian
use Rattle.big_endian_write.specs.contracts as big_endian_write'
use Rattle.big_endian_write.proofs as big_endian_write
use Rattle.btsnoop_read.specs.contracts as btsnoop_read'
use Rattle.btsnoop_read.proofs as btsnoop_read
use Rattle.btsnoop_put.specs.contracts as btsnoop_put'
use Rattle.btsnoop_put.proofs as btsnoop_put
use Rattle.btsnoop_write.specs.contracts as btsnoop_write'
use Rattle.btsnoop_write.proofs as btsnoop_write
use Rattle.btsnoop_measure.specs.contracts as btsnoop_measure'
use Rattle.btsnoop_measure.proofs as btsnoop_measure
use Rattle.to_columns.specs.contracts as to_columns'
use Rattle.to_columns.proofs as to_columns
use Rattle.from_columns.specs.contracts as from_columns'
use Rattle.from_columns.proofs as from_columns
use Rattle.host_record.specs.contracts as host_record'
use Rattle.host_record.proofs as host_record
use Rattle.host_recording.specs.contracts as host_recording'
use Rattle.host_recording.proofs as host_recording
use Rattle.text.specs.contracts as text'
use Rattle.text.proofs as text
use Rattle.text_read.specs.contracts as text_read'
use Rattle.text_read.proofs as text_read
use Rattle.number_text.specs.contracts as number_text'
use Rattle.number_text.proofs as number_text
use Rattle.woken_text.specs.contracts as woken_text'
use Rattle.woken_text.proofs as woken_text
use Rattle.event_text.specs.contracts as event_text'
use Rattle.event_text.proofs as event_text
use Rattle.slot_text.specs.contracts as slot_text'
use Rattle.slot_text.proofs as slot_text
use Rattle.table_text.specs.contracts as table_text'
use Rattle.table_text.proofs as table_text

abbrev pub program : World
program =
    (codes "refusal", refusal.Linked.functions)
    ∷ (codes "state", state.Linked.functions)
    ∷ (codes "event_queue", event_queue.Linked.functions)
    ∷ (codes "turn", turn.Linked.functions)
    ∷ (codes "pool", pool.Linked.functions)
    ∷ (codes "slot", slot.Linked.functions)
    ∷ (codes "rule", rule.Linked.functions)
    ∷ (codes "search", search.Linked.functions)
    ∷ (codes "table", table.Linked.functions)
    ∷ (codes "slot_call", slot_call.Linked.functions)
    ∷ (codes "inc_ref", inc_ref.Linked.functions)
    ∷ (codes "dec_ref", dec_ref.Linked.functions)
    ∷ (codes "connect", connect.Linked.functions)
    ∷ (codes "lookup", lookup.Linked.functions)
    ∷ (codes "accept", accept.Linked.functions)
    ∷ (codes "accept_sixteen", accept_sixteen.Linked.functions)
    ∷ (codes "packet_grant", packet_grant.Linked.functions)
    ∷ (codes "request_disconnect", request_disconnect.Linked.functions)
    ∷ (codes "poll_disconnecting", poll_disconnecting.Linked.functions)
    ∷ (codes "withdraw_disconnect", withdraw_disconnect.Linked.functions)
    ∷ (codes "confirm", confirm.Linked.functions)
    ∷ (codes "disconnected", disconnected.Linked.functions)
    ∷ (codes "att_mtu", att_mtu.Linked.functions)
    ∷ (codes "negotiated_mtu", negotiated_mtu.Linked.functions)
    ∷ (codes "signal_indication_confirmation", signal_indication_confirmation.Linked.functions)
    ∷ (codes "wait_indication_confirmation", wait_indication_confirmation.Linked.functions)
    ∷ (codes "post_handle_event", post_handle_event.Linked.functions)
    ∷ (codes "next", next.Linked.functions)
    ∷ (codes "acquire_indication_slot", acquire_indication_slot.Linked.functions)
    ∷ (codes "release_indication_slot", release_indication_slot.Linked.functions)
    ∷ (codes "all_credits", all_credits.Linked.functions)
    ∷ (codes "total_lost", total_lost.Linked.functions)
    ∷ (codes "confirm_sent", confirm_sent.Linked.functions)
    ∷ (codes "has_link_credits", has_link_credits.Linked.functions)
    ∷ (codes "poll_request_to_send", poll_request_to_send.Linked.functions)
    ∷ (codes "grant_end", grant_end.Linked.functions)
    ∷ (codes "poll_acquire_acl_send_lock", poll_acquire_acl_send_lock.Linked.functions)
    ∷ (codes "unlock_acl_send", unlock_acl_send.Linked.functions)
    ∷ (codes "poll_request_from_pool", poll_request_from_pool.Linked.functions)
    ∷ (codes "pool_returns", pool_returns.Linked.functions)
    ∷ (codes "calls", calls.Linked.functions)
    ∷ (codes "limits", limits.Linked.functions)
    ∷ (codes "wire", wire.Linked.functions)
    ∷ (codes "peer_records", peer_records.Linked.functions)
    ∷ (codes "accept_recorded", accept_recorded.Linked.functions)
    ∷ (codes "hci", hci.Linked.functions)
    ∷ (codes "hci_read", hci_read.Linked.functions)
    ∷ (codes "hci_write", hci_write.Linked.functions)
    ∷ (codes "completed_packets", completed_packets.Linked.functions)
    ∷ (codes "completed_packets_write", completed_packets_write.Linked.functions)
    ∷ (codes "att_pdu", att_pdu.Linked.functions)
    ∷ (codes "att_pdu_write", att_pdu_write.Linked.functions)
    ∷ (codes "woken_set", woken_set.Linked.functions)
    ∷ (codes "received", received.Linked.functions)
    ∷ (codes "host_event", host_event.Linked.functions)
    ∷ (codes "host_pairs", host_pairs.Linked.functions)
    ∷ (codes "host", host.Linked.functions)
    ∷ (codes "host_att", host_att.Linked.functions)
    ∷ (codes "roster", roster.Linked.functions)
    ∷ (codes "big_endian", big_endian.Linked.functions)
    ∷ (codes "big_endian_write", big_endian_write.Linked.functions)
    ∷ (codes "btsnoop_read", btsnoop_read.Linked.functions)
    ∷ (codes "btsnoop_put", btsnoop_put.Linked.functions)
    ∷ (codes "btsnoop_write", btsnoop_write.Linked.functions)
    ∷ (codes "btsnoop_measure", btsnoop_measure.Linked.functions)
    ∷ (codes "to_columns", to_columns.Linked.functions)
    ∷ (codes "from_columns", from_columns.Linked.functions)
    ∷ (codes "host_record", host_record.Linked.functions)
    ∷ (codes "host_recording", host_recording.Linked.functions)
    ∷ (codes "text", text.Linked.functions)
    ∷ (codes "text_read", text_read.Linked.functions)
    ∷ (codes "number_text", number_text.Linked.functions)
    ∷ (codes "woken_text", woken_text.Linked.functions)
    ∷ (codes "event_text", event_text.Linked.functions)
    ∷ (codes "slot_text", slot_text.Linked.functions)
    ∷ (codes "table_text", table_text.Linked.functions)
    ∷ []

has-refusal-U8FromRefusal-from : HasT (in_world program) true refusal.U8FromRefusal.from.Symbol.code
has-refusal-U8FromRefusal-from = refusal.Linked.linked-U8FromRefusal-from program refl tt

has-refusal-RefusalPartialEq-eq : HasT (in_world program) true refusal.RefusalPartialEq.eq.Symbol.code
has-refusal-RefusalPartialEq-eq = refusal.Linked.linked-RefusalPartialEq-eq program refl tt

has-state-ConnectionState-is_live : HasT (in_world program) true state.ConnectionState.is_live.Symbol.code
has-state-ConnectionState-is_live = state.Linked.linked-ConnectionState-is_live program refl tt

has-state-ConnectionState-is_connected : HasT (in_world program) true state.ConnectionState.is_connected.Symbol.code
has-state-ConnectionState-is_connected = state.Linked.linked-ConnectionState-is_connected program refl tt

has-state-ConnectionState-is_open : HasT (in_world program) true state.ConnectionState.is_open.Symbol.code
has-state-ConnectionState-is_open = state.Linked.linked-ConnectionState-is_open program refl tt

has-state-ConnectionState-is_requesting : HasT (in_world program) true state.ConnectionState.is_requesting.Symbol.code
has-state-ConnectionState-is_requesting = state.Linked.linked-ConnectionState-is_requesting program refl tt

has-state-ConnectionState-is_connecting : HasT (in_world program) true state.ConnectionState.is_connecting.Symbol.code
has-state-ConnectionState-is_connecting = state.Linked.linked-ConnectionState-is_connecting program refl tt

has-state-U8FromDisconnectReason-from : HasT (in_world program) true state.U8FromDisconnectReason.from.Symbol.code
has-state-U8FromDisconnectReason-from = state.Linked.linked-U8FromDisconnectReason-from program refl tt

has-event_queue-EventQueue-new : HasT (in_world program) true event_queue.EventQueue.new.Symbol.code
has-event_queue-EventQueue-new = event_queue.Linked.linked-EventQueue-new program refl tt

has-event_queue-EventQueue-push : HasT (in_world program) true event_queue.EventQueue.push.Symbol.code
has-event_queue-EventQueue-push = event_queue.Linked.linked-EventQueue-push program refl tt

has-event_queue-EventQueue-pop : HasT (in_world program) true event_queue.EventQueue.pop.Symbol.code
has-event_queue-EventQueue-pop = event_queue.Linked.linked-EventQueue-pop program refl tt

has-event_queue-U8FromPhyKind-from : HasT (in_world program) true event_queue.U8FromPhyKind.from.Symbol.code
has-event_queue-U8FromPhyKind-from = event_queue.Linked.linked-U8FromPhyKind-from program refl tt

has-turn-next_waiting : HasT (in_world program) true turn.next_waiting.Symbol.code
has-turn-next_waiting = turn.Linked.linked-next_waiting program refl tt

has-turn-with_wait : HasT (in_world program) true turn.with_wait.Symbol.code
has-turn-with_wait = turn.Linked.linked-with_wait program refl tt

has-turn-without_wait : HasT (in_world program) true turn.without_wait.Symbol.code
has-turn-without_wait = turn.Linked.linked-without_wait program refl tt

below-pool : pool.Linked.Below program
below-pool = search (has-turn-next_waiting, has-turn-with_wait, has-turn-without_wait)

has-pool-may_draw : HasT (in_world program) true pool.may_draw.Symbol.code
has-pool-may_draw = pool.Linked.linked-may_draw program refl below-pool

has-pool-shared : HasT (in_world program) true pool.shared.Symbol.code
has-pool-shared = pool.Linked.linked-shared program refl below-pool

has-pool-fits_slots : HasT (in_world program) true pool.fits_slots.Symbol.code
has-pool-fits_slots = pool.Linked.linked-fits_slots program refl below-pool

below-slot : slot.Linked.Below program
below-slot = search (has-state-U8FromDisconnectReason-from, has-event_queue-EventQueue-new, has-event_queue-U8FromPhyKind-from)

has-slot-ConnectionStorage-new : HasT (in_world program) true slot.ConnectionStorage.new.Symbol.code
has-slot-ConnectionStorage-new = slot.Linked.linked-ConnectionStorage-new program refl below-slot

has-slot-ConnectionStorage-with_state : HasT (in_world program) true slot.ConnectionStorage.with_state.Symbol.code
has-slot-ConnectionStorage-with_state = slot.Linked.linked-ConnectionStorage-with_state program refl below-slot

has-slot-ConnectionStorage-with_subrating_params : HasT (in_world program) true slot.ConnectionStorage.with_subrating_params.Symbol.code
has-slot-ConnectionStorage-with_subrating_params = slot.Linked.linked-ConnectionStorage-with_subrating_params program refl below-slot

has-slot-U8FromLeConnRole-from : HasT (in_world program) true slot.U8FromLeConnRole.from.Symbol.code
has-slot-U8FromLeConnRole-from = slot.Linked.linked-U8FromLeConnRole-from program refl below-slot

has-slot-LeConnRolePartialEq-eq : HasT (in_world program) true slot.LeConnRolePartialEq.eq.Symbol.code
has-slot-LeConnRolePartialEq-eq = slot.Linked.linked-LeConnRolePartialEq-eq program refl below-slot

below-rule : rule.Linked.Below program
below-rule = search (has-state-ConnectionState-is_live, has-state-ConnectionState-is_connected, has-state-ConnectionState-is_open, has-state-ConnectionState-is_requesting, has-state-ConnectionState-is_connecting, has-slot-LeConnRolePartialEq-eq)

has-rule-same_address : HasT (in_world program) true rule.same_address.Symbol.code
has-rule-same_address = rule.Linked.linked-same_address program refl below-rule

has-rule-fits : HasT (in_world program) true rule.fits.Symbol.code
has-rule-fits = rule.Linked.linked-fits program refl below-rule

below-search : search.Linked.Below program
below-search = search (has-pool-fits_slots, has-rule-fits)

has-search-begin : HasT (in_world program) true search.begin.Symbol.code
has-search-begin = search.Linked.linked-begin program refl below-search

has-search-see : HasT (in_world program) true search.see.Symbol.code
has-search-see = search.Linked.linked-see program refl below-search

has-search-end : HasT (in_world program) true search.end.Symbol.code
has-search-end = search.Linked.linked-end program refl below-search

has-search-find : HasT (in_world program) true search.find.Symbol.code
has-search-find = search.Linked.linked-find program refl below-search

has-search-locate : HasT (in_world program) true search.locate.Symbol.code
has-search-locate = search.Linked.linked-locate program refl below-search

has-search-is_well_formed : HasT (in_world program) true search.is_well_formed.Symbol.code
has-search-is_well_formed = search.Linked.linked-is_well_formed program refl below-search

below-table : table.Linked.Below program
below-table = search (has-refusal-RefusalPartialEq-eq, has-event_queue-EventQueue-new, has-pool-shared, has-slot-ConnectionStorage-new)

has-table-Look-waking_nobody : HasT (in_world program) true table.Look.waking_nobody.Symbol.code
has-table-Look-waking_nobody = table.Linked.linked-Look-waking_nobody program refl below-table

has-table-put_shared : HasT (in_world program) true table.put_shared.Symbol.code
has-table-put_shared = table.Linked.linked-put_shared program refl below-table

has-table-new : HasT (in_world program) true table.new.Symbol.code
has-table-new = table.Linked.linked-new program refl below-table

has-table-OutcomeClone-clone : HasT (in_world program) true table.OutcomeClone.clone.Symbol.code
has-table-OutcomeClone-clone = table.Linked.linked-OutcomeClone-clone program refl below-table

has-table-LookClone-clone : HasT (in_world program) true table.LookClone.clone.Symbol.code
has-table-LookClone-clone = table.Linked.linked-LookClone-clone program refl below-table

below-slot_call : slot_call.Linked.Below program
below-slot_call = search (has-refusal-RefusalPartialEq-eq, has-search-find, has-table-put_shared, has-table-OutcomeClone-clone, has-table-LookClone-clone)

has-slot_call-unshared : HasT (in_world program) true slot_call.unshared.Symbol.code
has-slot_call-unshared = slot_call.Linked.linked-unshared program refl below-slot_call

has-slot_call-found : HasT (in_world program) true slot_call.found.Symbol.code
has-slot_call-found = slot_call.Linked.linked-found program refl below-slot_call

has-slot_call-view : HasT (in_world program) true slot_call.view.Symbol.code
has-slot_call-view = slot_call.Linked.linked-view program refl below-slot_call

has-slot_call-work_in : HasT (in_world program) true slot_call.work_in.Symbol.code
has-slot_call-work_in = slot_call.Linked.linked-work_in program refl below-slot_call

has-slot_call-resolve_in : HasT (in_world program) true slot_call.resolve_in.Symbol.code
has-slot_call-resolve_in = slot_call.Linked.linked-resolve_in program refl below-slot_call

has-slot_call-resolve : HasT (in_world program) true slot_call.resolve.Symbol.code
has-slot_call-resolve = slot_call.Linked.linked-resolve program refl below-slot_call

has-slot_call-resolve_look : HasT (in_world program) true slot_call.resolve_look.Symbol.code
has-slot_call-resolve_look = slot_call.Linked.linked-resolve_look program refl below-slot_call

has-slot_call-LocalClone-clone : HasT (in_world program) true slot_call.LocalClone.clone.Symbol.code
has-slot_call-LocalClone-clone = slot_call.Linked.linked-LocalClone-clone program refl below-slot_call

below-inc_ref : inc_ref.Linked.Below program
below-inc_ref = search (has-refusal-RefusalPartialEq-eq, has-table-OutcomeClone-clone, has-slot_call-unshared, has-slot_call-resolve, has-slot_call-LocalClone-clone)

has-inc_ref-inc_ref : HasT (in_world program) true inc_ref.inc_ref.Symbol.code
has-inc_ref-inc_ref = inc_ref.Linked.linked-inc_ref program refl below-inc_ref

has-inc_ref-IncRefCallSlotCall-rule : HasT (in_world program) true inc_ref.IncRefCallSlotCall.rule.Symbol.code
has-inc_ref-IncRefCallSlotCall-rule = inc_ref.Linked.linked-IncRefCallSlotCall-rule program refl below-inc_ref

has-inc_ref-IncRefCallSlotCall-absent : HasT (in_world program) true inc_ref.IncRefCallSlotCall.absent.Symbol.code
has-inc_ref-IncRefCallSlotCall-absent = inc_ref.Linked.linked-IncRefCallSlotCall-absent program refl below-inc_ref

has-inc_ref-IncRefCallSlotCall-at : HasT (in_world program) true inc_ref.IncRefCallSlotCall.at.Symbol.code
has-inc_ref-IncRefCallSlotCall-at = inc_ref.Linked.linked-IncRefCallSlotCall-at program refl below-inc_ref

below-dec_ref : dec_ref.Linked.Below program
below-dec_ref = search (has-refusal-RefusalPartialEq-eq, has-state-ConnectionState-is_connected, has-table-OutcomeClone-clone, has-slot_call-unshared, has-slot_call-resolve, has-slot_call-LocalClone-clone)

has-dec_ref-dec_ref : HasT (in_world program) true dec_ref.dec_ref.Symbol.code
has-dec_ref-dec_ref = dec_ref.Linked.linked-dec_ref program refl below-dec_ref

has-dec_ref-DecRefCallSlotCall-rule : HasT (in_world program) true dec_ref.DecRefCallSlotCall.rule.Symbol.code
has-dec_ref-DecRefCallSlotCall-rule = dec_ref.Linked.linked-DecRefCallSlotCall-rule program refl below-dec_ref

has-dec_ref-DecRefCallSlotCall-absent : HasT (in_world program) true dec_ref.DecRefCallSlotCall.absent.Symbol.code
has-dec_ref-DecRefCallSlotCall-absent = dec_ref.Linked.linked-DecRefCallSlotCall-absent program refl below-dec_ref

has-dec_ref-DecRefCallSlotCall-at : HasT (in_world program) true dec_ref.DecRefCallSlotCall.at.Symbol.code
has-dec_ref-DecRefCallSlotCall-at = dec_ref.Linked.linked-DecRefCallSlotCall-at program refl below-dec_ref

below-connect : connect.Linked.Below program
below-connect = search (has-refusal-RefusalPartialEq-eq, has-event_queue-EventQueue-new, has-slot-ConnectionStorage-new, has-slot-LeConnRolePartialEq-eq, has-table-new, has-table-OutcomeClone-clone, has-slot_call-unshared, has-slot_call-resolve, has-slot_call-LocalClone-clone)

has-connect-connect : HasT (in_world program) true connect.connect.Symbol.code
has-connect-connect = connect.Linked.linked-connect program refl below-connect

has-connect-ConnectCallSlotCall-rule : HasT (in_world program) true connect.ConnectCallSlotCall.rule.Symbol.code
has-connect-ConnectCallSlotCall-rule = connect.Linked.linked-ConnectCallSlotCall-rule program refl below-connect

has-connect-ConnectCallSlotCall-absent : HasT (in_world program) true connect.ConnectCallSlotCall.absent.Symbol.code
has-connect-ConnectCallSlotCall-absent = connect.Linked.linked-ConnectCallSlotCall-absent program refl below-connect

has-connect-ConnectCallSlotCall-at : HasT (in_world program) true connect.ConnectCallSlotCall.at.Symbol.code
has-connect-ConnectCallSlotCall-at = connect.Linked.linked-ConnectCallSlotCall-at program refl below-connect

below-lookup : lookup.Linked.Below program
below-lookup = search (has-refusal-RefusalPartialEq-eq, has-table-OutcomeClone-clone, has-slot_call-unshared, has-slot_call-resolve, has-slot_call-LocalClone-clone)

has-lookup-get_connected_handle : HasT (in_world program) true lookup.get_connected_handle.Symbol.code
has-lookup-get_connected_handle = lookup.Linked.linked-get_connected_handle program refl below-lookup

has-lookup-get_connection_by_peer_address : HasT (in_world program) true lookup.get_connection_by_peer_address.Symbol.code
has-lookup-get_connection_by_peer_address = lookup.Linked.linked-get_connection_by_peer_address program refl below-lookup

has-lookup-GetConnectedHandleCallSlotCall-rule : HasT (in_world program) true lookup.GetConnectedHandleCallSlotCall.rule.Symbol.code
has-lookup-GetConnectedHandleCallSlotCall-rule = lookup.Linked.linked-GetConnectedHandleCallSlotCall-rule program refl below-lookup

has-lookup-GetConnectedHandleCallSlotCall-absent : HasT (in_world program) true lookup.GetConnectedHandleCallSlotCall.absent.Symbol.code
has-lookup-GetConnectedHandleCallSlotCall-absent = lookup.Linked.linked-GetConnectedHandleCallSlotCall-absent program refl below-lookup

has-lookup-GetConnectedHandleCallSlotCall-at : HasT (in_world program) true lookup.GetConnectedHandleCallSlotCall.at.Symbol.code
has-lookup-GetConnectedHandleCallSlotCall-at = lookup.Linked.linked-GetConnectedHandleCallSlotCall-at program refl below-lookup

has-lookup-GetConnectionByPeerAddressCallSlotCall-rule : HasT (in_world program) true lookup.GetConnectionByPeerAddressCallSlotCall.rule.Symbol.code
has-lookup-GetConnectionByPeerAddressCallSlotCall-rule = lookup.Linked.linked-GetConnectionByPeerAddressCallSlotCall-rule program refl below-lookup

has-lookup-GetConnectionByPeerAddressCallSlotCall-absent : HasT (in_world program) true lookup.GetConnectionByPeerAddressCallSlotCall.absent.Symbol.code
has-lookup-GetConnectionByPeerAddressCallSlotCall-absent = lookup.Linked.linked-GetConnectionByPeerAddressCallSlotCall-absent program refl below-lookup

has-lookup-GetConnectionByPeerAddressCallSlotCall-at : HasT (in_world program) true lookup.GetConnectionByPeerAddressCallSlotCall.at.Symbol.code
has-lookup-GetConnectionByPeerAddressCallSlotCall-at = lookup.Linked.linked-GetConnectionByPeerAddressCallSlotCall-at program refl below-lookup

below-accept : accept.Linked.Below program
below-accept = search (has-refusal-RefusalPartialEq-eq, has-slot-ConnectionStorage-with_state, has-slot-LeConnRolePartialEq-eq, has-rule-same_address, has-rule-fits, has-search-is_well_formed, has-table-put_shared, has-table-OutcomeClone-clone, has-table-LookClone-clone, has-slot_call-unshared, has-slot_call-view, has-slot_call-work_in, has-slot_call-resolve, has-slot_call-LocalClone-clone)

has-accept-poll_accept_any : HasT (in_world program) true accept.poll_accept_any.Symbol.code
has-accept-poll_accept_any = accept.Linked.linked-poll_accept_any program refl below-accept

has-accept-accept_at : HasT (in_world program) true accept.accept_at.Symbol.code
has-accept-accept_at = accept.Linked.linked-accept_at program refl below-accept

has-accept-poll_accept_among : HasT (in_world program) true accept.poll_accept_among.Symbol.code
has-accept-poll_accept_among = accept.Linked.linked-poll_accept_among program refl below-accept

has-accept-poll_accept : HasT (in_world program) true accept.poll_accept.Symbol.code
has-accept-poll_accept = accept.Linked.linked-poll_accept program refl below-accept

has-accept-poll_accept_listed : HasT (in_world program) true accept.poll_accept_listed.Symbol.code
has-accept-poll_accept_listed = accept.Linked.linked-poll_accept_listed program refl below-accept

has-accept-PollAcceptAnyCallSlotCall-rule : HasT (in_world program) true accept.PollAcceptAnyCallSlotCall.rule.Symbol.code
has-accept-PollAcceptAnyCallSlotCall-rule = accept.Linked.linked-PollAcceptAnyCallSlotCall-rule program refl below-accept

has-accept-PollAcceptAnyCallSlotCall-absent : HasT (in_world program) true accept.PollAcceptAnyCallSlotCall.absent.Symbol.code
has-accept-PollAcceptAnyCallSlotCall-absent = accept.Linked.linked-PollAcceptAnyCallSlotCall-absent program refl below-accept

has-accept-PollAcceptAnyCallSlotCall-at : HasT (in_world program) true accept.PollAcceptAnyCallSlotCall.at.Symbol.code
has-accept-PollAcceptAnyCallSlotCall-at = accept.Linked.linked-PollAcceptAnyCallSlotCall-at program refl below-accept

has-accept-ListedPeerSet-contains : HasT (in_world program) true accept.ListedPeerSet.contains.Symbol.code
has-accept-ListedPeerSet-contains = accept.Linked.linked-ListedPeerSet-contains program refl below-accept

below-accept_sixteen : accept_sixteen.Linked.Below program
below-accept_sixteen = search (has-slot-LeConnRolePartialEq-eq, has-table-OutcomeClone-clone, has-accept-poll_accept)

has-accept_sixteen-poll_accept_sixteen : HasT (in_world program) true accept_sixteen.poll_accept_sixteen.Symbol.code
has-accept_sixteen-poll_accept_sixteen = accept_sixteen.Linked.linked-poll_accept_sixteen program refl below-accept_sixteen

has-packet_grant-confirm : HasT (in_world program) true packet_grant.confirm.Symbol.code
has-packet_grant-confirm = packet_grant.Linked.linked-confirm program refl tt

has-packet_grant-confirmed : HasT (in_world program) true packet_grant.confirmed.Symbol.code
has-packet_grant-confirmed = packet_grant.Linked.linked-confirmed program refl tt

below-request_disconnect : request_disconnect.Linked.Below program
below-request_disconnect = search (has-refusal-RefusalPartialEq-eq, has-state-ConnectionState-is_connected, has-slot-ConnectionStorage-with_state, has-table-OutcomeClone-clone, has-slot_call-unshared, has-slot_call-resolve, has-slot_call-LocalClone-clone)

has-request_disconnect-request_disconnect : HasT (in_world program) true request_disconnect.request_disconnect.Symbol.code
has-request_disconnect-request_disconnect = request_disconnect.Linked.linked-request_disconnect program refl below-request_disconnect

has-request_disconnect-request_handle_disconnect : HasT (in_world program) true request_disconnect.request_handle_disconnect.Symbol.code
has-request_disconnect-request_handle_disconnect = request_disconnect.Linked.linked-request_handle_disconnect program refl below-request_disconnect

has-request_disconnect-RequestDisconnectCallSlotCall-rule : HasT (in_world program) true request_disconnect.RequestDisconnectCallSlotCall.rule.Symbol.code
has-request_disconnect-RequestDisconnectCallSlotCall-rule = request_disconnect.Linked.linked-RequestDisconnectCallSlotCall-rule program refl below-request_disconnect

has-request_disconnect-RequestDisconnectCallSlotCall-absent : HasT (in_world program) true request_disconnect.RequestDisconnectCallSlotCall.absent.Symbol.code
has-request_disconnect-RequestDisconnectCallSlotCall-absent = request_disconnect.Linked.linked-RequestDisconnectCallSlotCall-absent program refl below-request_disconnect

has-request_disconnect-RequestDisconnectCallSlotCall-at : HasT (in_world program) true request_disconnect.RequestDisconnectCallSlotCall.at.Symbol.code
has-request_disconnect-RequestDisconnectCallSlotCall-at = request_disconnect.Linked.linked-RequestDisconnectCallSlotCall-at program refl below-request_disconnect

has-request_disconnect-RequestHandleDisconnectCallSlotCall-rule : HasT (in_world program) true request_disconnect.RequestHandleDisconnectCallSlotCall.rule.Symbol.code
has-request_disconnect-RequestHandleDisconnectCallSlotCall-rule = request_disconnect.Linked.linked-RequestHandleDisconnectCallSlotCall-rule program refl below-request_disconnect

has-request_disconnect-RequestHandleDisconnectCallSlotCall-absent : HasT (in_world program) true request_disconnect.RequestHandleDisconnectCallSlotCall.absent.Symbol.code
has-request_disconnect-RequestHandleDisconnectCallSlotCall-absent = request_disconnect.Linked.linked-RequestHandleDisconnectCallSlotCall-absent program refl below-request_disconnect

has-request_disconnect-RequestHandleDisconnectCallSlotCall-at : HasT (in_world program) true request_disconnect.RequestHandleDisconnectCallSlotCall.at.Symbol.code
has-request_disconnect-RequestHandleDisconnectCallSlotCall-at = request_disconnect.Linked.linked-RequestHandleDisconnectCallSlotCall-at program refl below-request_disconnect

below-poll_disconnecting : poll_disconnecting.Linked.Below program
below-poll_disconnecting = search (has-refusal-RefusalPartialEq-eq, has-table-LookClone-clone, has-slot_call-unshared, has-slot_call-resolve_look, has-slot_call-LocalClone-clone)

has-poll_disconnecting-poll_disconnecting : HasT (in_world program) true poll_disconnecting.poll_disconnecting.Symbol.code
has-poll_disconnecting-poll_disconnecting = poll_disconnecting.Linked.linked-poll_disconnecting program refl below-poll_disconnecting

has-poll_disconnecting-PollDisconnectingCallSlotCall-rule : HasT (in_world program) true poll_disconnecting.PollDisconnectingCallSlotCall.rule.Symbol.code
has-poll_disconnecting-PollDisconnectingCallSlotCall-rule = poll_disconnecting.Linked.linked-PollDisconnectingCallSlotCall-rule program refl below-poll_disconnecting

has-poll_disconnecting-PollDisconnectingCallSlotCall-absent : HasT (in_world program) true poll_disconnecting.PollDisconnectingCallSlotCall.absent.Symbol.code
has-poll_disconnecting-PollDisconnectingCallSlotCall-absent = poll_disconnecting.Linked.linked-PollDisconnectingCallSlotCall-absent program refl below-poll_disconnecting

has-poll_disconnecting-PollDisconnectingCallSlotCall-at : HasT (in_world program) true poll_disconnecting.PollDisconnectingCallSlotCall.at.Symbol.code
has-poll_disconnecting-PollDisconnectingCallSlotCall-at = poll_disconnecting.Linked.linked-PollDisconnectingCallSlotCall-at program refl below-poll_disconnecting

below-withdraw_disconnect : withdraw_disconnect.Linked.Below program
below-withdraw_disconnect = search (has-refusal-RefusalPartialEq-eq, has-state-ConnectionState-is_requesting, has-slot-ConnectionStorage-with_state, has-table-OutcomeClone-clone, has-slot_call-unshared, has-slot_call-resolve, has-slot_call-LocalClone-clone)

has-withdraw_disconnect-withdraw_disconnect : HasT (in_world program) true withdraw_disconnect.withdraw_disconnect.Symbol.code
has-withdraw_disconnect-withdraw_disconnect = withdraw_disconnect.Linked.linked-withdraw_disconnect program refl below-withdraw_disconnect

has-withdraw_disconnect-WithdrawDisconnectCallSlotCall-rule : HasT (in_world program) true withdraw_disconnect.WithdrawDisconnectCallSlotCall.rule.Symbol.code
has-withdraw_disconnect-WithdrawDisconnectCallSlotCall-rule = withdraw_disconnect.Linked.linked-WithdrawDisconnectCallSlotCall-rule program refl below-withdraw_disconnect

has-withdraw_disconnect-WithdrawDisconnectCallSlotCall-absent : HasT (in_world program) true withdraw_disconnect.WithdrawDisconnectCallSlotCall.absent.Symbol.code
has-withdraw_disconnect-WithdrawDisconnectCallSlotCall-absent = withdraw_disconnect.Linked.linked-WithdrawDisconnectCallSlotCall-absent program refl below-withdraw_disconnect

has-withdraw_disconnect-WithdrawDisconnectCallSlotCall-at : HasT (in_world program) true withdraw_disconnect.WithdrawDisconnectCallSlotCall.at.Symbol.code
has-withdraw_disconnect-WithdrawDisconnectCallSlotCall-at = withdraw_disconnect.Linked.linked-WithdrawDisconnectCallSlotCall-at program refl below-withdraw_disconnect

below-confirm : confirm.Linked.Below program
below-confirm = search (has-refusal-RefusalPartialEq-eq, has-state-ConnectionState-is_requesting, has-slot-ConnectionStorage-with_state, has-table-OutcomeClone-clone, has-slot_call-unshared, has-slot_call-resolve, has-slot_call-LocalClone-clone)

has-confirm-confirm : HasT (in_world program) true confirm.confirm.Symbol.code
has-confirm-confirm = confirm.Linked.linked-confirm program refl below-confirm

has-confirm-ConfirmCallSlotCall-rule : HasT (in_world program) true confirm.ConfirmCallSlotCall.rule.Symbol.code
has-confirm-ConfirmCallSlotCall-rule = confirm.Linked.linked-ConfirmCallSlotCall-rule program refl below-confirm

has-confirm-ConfirmCallSlotCall-absent : HasT (in_world program) true confirm.ConfirmCallSlotCall.absent.Symbol.code
has-confirm-ConfirmCallSlotCall-absent = confirm.Linked.linked-ConfirmCallSlotCall-absent program refl below-confirm

has-confirm-ConfirmCallSlotCall-at : HasT (in_world program) true confirm.ConfirmCallSlotCall.at.Symbol.code
has-confirm-ConfirmCallSlotCall-at = confirm.Linked.linked-ConfirmCallSlotCall-at program refl below-confirm

below-disconnected : disconnected.Linked.Below program
below-disconnected = search (has-refusal-RefusalPartialEq-eq, has-event_queue-EventQueue-push, has-slot-ConnectionStorage-with_state, has-table-OutcomeClone-clone, has-slot_call-resolve, has-slot_call-LocalClone-clone)

has-disconnected-disconnected : HasT (in_world program) true disconnected.disconnected.Symbol.code
has-disconnected-disconnected = disconnected.Linked.linked-disconnected program refl below-disconnected

has-disconnected-DisconnectedCallSlotCall-rule : HasT (in_world program) true disconnected.DisconnectedCallSlotCall.rule.Symbol.code
has-disconnected-DisconnectedCallSlotCall-rule = disconnected.Linked.linked-DisconnectedCallSlotCall-rule program refl below-disconnected

has-disconnected-DisconnectedCallSlotCall-absent : HasT (in_world program) true disconnected.DisconnectedCallSlotCall.absent.Symbol.code
has-disconnected-DisconnectedCallSlotCall-absent = disconnected.Linked.linked-DisconnectedCallSlotCall-absent program refl below-disconnected

has-disconnected-DisconnectedCallSlotCall-at : HasT (in_world program) true disconnected.DisconnectedCallSlotCall.at.Symbol.code
has-disconnected-DisconnectedCallSlotCall-at = disconnected.Linked.linked-DisconnectedCallSlotCall-at program refl below-disconnected

below-att_mtu : att_mtu.Linked.Below program
below-att_mtu = search (has-refusal-RefusalPartialEq-eq, has-table-OutcomeClone-clone, has-table-LookClone-clone, has-slot_call-unshared, has-slot_call-resolve, has-slot_call-resolve_look, has-slot_call-LocalClone-clone)

has-att_mtu-answered : HasT (in_world program) true att_mtu.answered.Symbol.code
has-att_mtu-answered = att_mtu.Linked.linked-answered program refl below-att_mtu

has-att_mtu-lesser : HasT (in_world program) true att_mtu.lesser.Symbol.code
has-att_mtu-lesser = att_mtu.Linked.linked-lesser program refl below-att_mtu

has-att_mtu-exchange_att_mtu : HasT (in_world program) true att_mtu.exchange_att_mtu.Symbol.code
has-att_mtu-exchange_att_mtu = att_mtu.Linked.linked-exchange_att_mtu program refl below-att_mtu

has-att_mtu-get_att_mtu_handle : HasT (in_world program) true att_mtu.get_att_mtu_handle.Symbol.code
has-att_mtu-get_att_mtu_handle = att_mtu.Linked.linked-get_att_mtu_handle program refl below-att_mtu

has-att_mtu-ExchangeAttMtuCallSlotCall-rule : HasT (in_world program) true att_mtu.ExchangeAttMtuCallSlotCall.rule.Symbol.code
has-att_mtu-ExchangeAttMtuCallSlotCall-rule = att_mtu.Linked.linked-ExchangeAttMtuCallSlotCall-rule program refl below-att_mtu

has-att_mtu-ExchangeAttMtuCallSlotCall-absent : HasT (in_world program) true att_mtu.ExchangeAttMtuCallSlotCall.absent.Symbol.code
has-att_mtu-ExchangeAttMtuCallSlotCall-absent = att_mtu.Linked.linked-ExchangeAttMtuCallSlotCall-absent program refl below-att_mtu

has-att_mtu-ExchangeAttMtuCallSlotCall-at : HasT (in_world program) true att_mtu.ExchangeAttMtuCallSlotCall.at.Symbol.code
has-att_mtu-ExchangeAttMtuCallSlotCall-at = att_mtu.Linked.linked-ExchangeAttMtuCallSlotCall-at program refl below-att_mtu

has-att_mtu-GetAttMtuHandleCallSlotCall-rule : HasT (in_world program) true att_mtu.GetAttMtuHandleCallSlotCall.rule.Symbol.code
has-att_mtu-GetAttMtuHandleCallSlotCall-rule = att_mtu.Linked.linked-GetAttMtuHandleCallSlotCall-rule program refl below-att_mtu

has-att_mtu-GetAttMtuHandleCallSlotCall-absent : HasT (in_world program) true att_mtu.GetAttMtuHandleCallSlotCall.absent.Symbol.code
has-att_mtu-GetAttMtuHandleCallSlotCall-absent = att_mtu.Linked.linked-GetAttMtuHandleCallSlotCall-absent program refl below-att_mtu

has-att_mtu-GetAttMtuHandleCallSlotCall-at : HasT (in_world program) true att_mtu.GetAttMtuHandleCallSlotCall.at.Symbol.code
has-att_mtu-GetAttMtuHandleCallSlotCall-at = att_mtu.Linked.linked-GetAttMtuHandleCallSlotCall-at program refl below-att_mtu

below-negotiated_mtu : negotiated_mtu.Linked.Below program
below-negotiated_mtu = search (has-refusal-RefusalPartialEq-eq, has-table-OutcomeClone-clone, has-table-LookClone-clone, has-slot_call-unshared, has-slot_call-resolve, has-slot_call-resolve_look, has-slot_call-LocalClone-clone, has-att_mtu-answered, has-att_mtu-lesser)

has-negotiated_mtu-negotiate_att_mtu : HasT (in_world program) true negotiated_mtu.negotiate_att_mtu.Symbol.code
has-negotiated_mtu-negotiate_att_mtu = negotiated_mtu.Linked.linked-negotiate_att_mtu program refl below-negotiated_mtu

has-negotiated_mtu-get_stored_att_mtu : HasT (in_world program) true negotiated_mtu.get_stored_att_mtu.Symbol.code
has-negotiated_mtu-get_stored_att_mtu = negotiated_mtu.Linked.linked-get_stored_att_mtu program refl below-negotiated_mtu

has-negotiated_mtu-NegotiateAttMtuCallSlotCall-rule : HasT (in_world program) true negotiated_mtu.NegotiateAttMtuCallSlotCall.rule.Symbol.code
has-negotiated_mtu-NegotiateAttMtuCallSlotCall-rule = negotiated_mtu.Linked.linked-NegotiateAttMtuCallSlotCall-rule program refl below-negotiated_mtu

has-negotiated_mtu-NegotiateAttMtuCallSlotCall-absent : HasT (in_world program) true negotiated_mtu.NegotiateAttMtuCallSlotCall.absent.Symbol.code
has-negotiated_mtu-NegotiateAttMtuCallSlotCall-absent = negotiated_mtu.Linked.linked-NegotiateAttMtuCallSlotCall-absent program refl below-negotiated_mtu

has-negotiated_mtu-NegotiateAttMtuCallSlotCall-at : HasT (in_world program) true negotiated_mtu.NegotiateAttMtuCallSlotCall.at.Symbol.code
has-negotiated_mtu-NegotiateAttMtuCallSlotCall-at = negotiated_mtu.Linked.linked-NegotiateAttMtuCallSlotCall-at program refl below-negotiated_mtu

has-negotiated_mtu-GetStoredAttMtuCallSlotCall-rule : HasT (in_world program) true negotiated_mtu.GetStoredAttMtuCallSlotCall.rule.Symbol.code
has-negotiated_mtu-GetStoredAttMtuCallSlotCall-rule = negotiated_mtu.Linked.linked-GetStoredAttMtuCallSlotCall-rule program refl below-negotiated_mtu

has-negotiated_mtu-GetStoredAttMtuCallSlotCall-absent : HasT (in_world program) true negotiated_mtu.GetStoredAttMtuCallSlotCall.absent.Symbol.code
has-negotiated_mtu-GetStoredAttMtuCallSlotCall-absent = negotiated_mtu.Linked.linked-GetStoredAttMtuCallSlotCall-absent program refl below-negotiated_mtu

has-negotiated_mtu-GetStoredAttMtuCallSlotCall-at : HasT (in_world program) true negotiated_mtu.GetStoredAttMtuCallSlotCall.at.Symbol.code
has-negotiated_mtu-GetStoredAttMtuCallSlotCall-at = negotiated_mtu.Linked.linked-GetStoredAttMtuCallSlotCall-at program refl below-negotiated_mtu

below-signal_indication_confirmation : signal_indication_confirmation.Linked.Below program
below-signal_indication_confirmation = search (has-refusal-RefusalPartialEq-eq, has-table-OutcomeClone-clone, has-slot_call-unshared, has-slot_call-resolve, has-slot_call-LocalClone-clone)

has-signal_indication_confirmation-signal_indication_confirmation : HasT (in_world program) true signal_indication_confirmation.signal_indication_confirmation.Symbol.code
has-signal_indication_confirmation-signal_indication_confirmation = signal_indication_confirmation.Linked.linked-signal_indication_confirmation program refl below-signal_indication_confirmation

has-signal_indication_confirmation-SignalIndicationConfirmationCallSlotCall-rule : HasT (in_world program) true signal_indication_confirmation.SignalIndicationConfirmationCallSlotCall.rule.Symbol.code
has-signal_indication_confirmation-SignalIndicationConfirmationCallSlotCall-rule = signal_indication_confirmation.Linked.linked-SignalIndicationConfirmationCallSlotCall-rule program refl below-signal_indication_confirmation

has-signal_indication_confirmation-SignalIndicationConfirmationCallSlotCall-absent : HasT (in_world program) true signal_indication_confirmation.SignalIndicationConfirmationCallSlotCall.absent.Symbol.code
has-signal_indication_confirmation-SignalIndicationConfirmationCallSlotCall-absent = signal_indication_confirmation.Linked.linked-SignalIndicationConfirmationCallSlotCall-absent program refl below-signal_indication_confirmation

has-signal_indication_confirmation-SignalIndicationConfirmationCallSlotCall-at : HasT (in_world program) true signal_indication_confirmation.SignalIndicationConfirmationCallSlotCall.at.Symbol.code
has-signal_indication_confirmation-SignalIndicationConfirmationCallSlotCall-at = signal_indication_confirmation.Linked.linked-SignalIndicationConfirmationCallSlotCall-at program refl below-signal_indication_confirmation

below-wait_indication_confirmation : wait_indication_confirmation.Linked.Below program
below-wait_indication_confirmation = search (has-refusal-RefusalPartialEq-eq, has-state-ConnectionState-is_open, has-table-OutcomeClone-clone, has-slot_call-unshared, has-slot_call-resolve, has-slot_call-LocalClone-clone)

has-wait_indication_confirmation-wait_indication_confirmation : HasT (in_world program) true wait_indication_confirmation.wait_indication_confirmation.Symbol.code
has-wait_indication_confirmation-wait_indication_confirmation = wait_indication_confirmation.Linked.linked-wait_indication_confirmation program refl below-wait_indication_confirmation

has-wait_indication_confirmation-WaitIndicationConfirmationCallSlotCall-rule : HasT (in_world program) true wait_indication_confirmation.WaitIndicationConfirmationCallSlotCall.rule.Symbol.code
has-wait_indication_confirmation-WaitIndicationConfirmationCallSlotCall-rule = wait_indication_confirmation.Linked.linked-WaitIndicationConfirmationCallSlotCall-rule program refl below-wait_indication_confirmation

has-wait_indication_confirmation-WaitIndicationConfirmationCallSlotCall-absent : HasT (in_world program) true wait_indication_confirmation.WaitIndicationConfirmationCallSlotCall.absent.Symbol.code
has-wait_indication_confirmation-WaitIndicationConfirmationCallSlotCall-absent = wait_indication_confirmation.Linked.linked-WaitIndicationConfirmationCallSlotCall-absent program refl below-wait_indication_confirmation

has-wait_indication_confirmation-WaitIndicationConfirmationCallSlotCall-at : HasT (in_world program) true wait_indication_confirmation.WaitIndicationConfirmationCallSlotCall.at.Symbol.code
has-wait_indication_confirmation-WaitIndicationConfirmationCallSlotCall-at = wait_indication_confirmation.Linked.linked-WaitIndicationConfirmationCallSlotCall-at program refl below-wait_indication_confirmation

below-post_handle_event : post_handle_event.Linked.Below program
below-post_handle_event = search (has-refusal-RefusalPartialEq-eq, has-event_queue-EventQueue-push, has-table-OutcomeClone-clone, has-slot_call-unshared, has-slot_call-resolve, has-slot_call-LocalClone-clone)

has-post_handle_event-post_handle_event : HasT (in_world program) true post_handle_event.post_handle_event.Symbol.code
has-post_handle_event-post_handle_event = post_handle_event.Linked.linked-post_handle_event program refl below-post_handle_event

has-post_handle_event-PostHandleEventCallSlotCall-rule : HasT (in_world program) true post_handle_event.PostHandleEventCallSlotCall.rule.Symbol.code
has-post_handle_event-PostHandleEventCallSlotCall-rule = post_handle_event.Linked.linked-PostHandleEventCallSlotCall-rule program refl below-post_handle_event

has-post_handle_event-PostHandleEventCallSlotCall-absent : HasT (in_world program) true post_handle_event.PostHandleEventCallSlotCall.absent.Symbol.code
has-post_handle_event-PostHandleEventCallSlotCall-absent = post_handle_event.Linked.linked-PostHandleEventCallSlotCall-absent program refl below-post_handle_event

has-post_handle_event-PostHandleEventCallSlotCall-at : HasT (in_world program) true post_handle_event.PostHandleEventCallSlotCall.at.Symbol.code
has-post_handle_event-PostHandleEventCallSlotCall-at = post_handle_event.Linked.linked-PostHandleEventCallSlotCall-at program refl below-post_handle_event

below-next : next.Linked.Below program
below-next = search (has-refusal-RefusalPartialEq-eq, has-event_queue-EventQueue-pop, has-table-OutcomeClone-clone, has-slot_call-unshared, has-slot_call-resolve, has-slot_call-LocalClone-clone)

has-next-next : HasT (in_world program) true next.next.Symbol.code
has-next-next = next.Linked.linked-next program refl below-next

has-next-NextCallSlotCall-rule : HasT (in_world program) true next.NextCallSlotCall.rule.Symbol.code
has-next-NextCallSlotCall-rule = next.Linked.linked-NextCallSlotCall-rule program refl below-next

has-next-NextCallSlotCall-absent : HasT (in_world program) true next.NextCallSlotCall.absent.Symbol.code
has-next-NextCallSlotCall-absent = next.Linked.linked-NextCallSlotCall-absent program refl below-next

has-next-NextCallSlotCall-at : HasT (in_world program) true next.NextCallSlotCall.at.Symbol.code
has-next-NextCallSlotCall-at = next.Linked.linked-NextCallSlotCall-at program refl below-next

below-acquire_indication_slot : acquire_indication_slot.Linked.Below program
below-acquire_indication_slot = search (has-refusal-RefusalPartialEq-eq, has-state-ConnectionState-is_open, has-table-OutcomeClone-clone, has-slot_call-unshared, has-slot_call-resolve, has-slot_call-LocalClone-clone)

has-acquire_indication_slot-acquire_indication_slot : HasT (in_world program) true acquire_indication_slot.acquire_indication_slot.Symbol.code
has-acquire_indication_slot-acquire_indication_slot = acquire_indication_slot.Linked.linked-acquire_indication_slot program refl below-acquire_indication_slot

has-acquire_indication_slot-AcquireIndicationSlotCallSlotCall-rule : HasT (in_world program) true acquire_indication_slot.AcquireIndicationSlotCallSlotCall.rule.Symbol.code
has-acquire_indication_slot-AcquireIndicationSlotCallSlotCall-rule = acquire_indication_slot.Linked.linked-AcquireIndicationSlotCallSlotCall-rule program refl below-acquire_indication_slot

has-acquire_indication_slot-AcquireIndicationSlotCallSlotCall-absent : HasT (in_world program) true acquire_indication_slot.AcquireIndicationSlotCallSlotCall.absent.Symbol.code
has-acquire_indication_slot-AcquireIndicationSlotCallSlotCall-absent = acquire_indication_slot.Linked.linked-AcquireIndicationSlotCallSlotCall-absent program refl below-acquire_indication_slot

has-acquire_indication_slot-AcquireIndicationSlotCallSlotCall-at : HasT (in_world program) true acquire_indication_slot.AcquireIndicationSlotCallSlotCall.at.Symbol.code
has-acquire_indication_slot-AcquireIndicationSlotCallSlotCall-at = acquire_indication_slot.Linked.linked-AcquireIndicationSlotCallSlotCall-at program refl below-acquire_indication_slot

below-release_indication_slot : release_indication_slot.Linked.Below program
below-release_indication_slot = search (has-refusal-RefusalPartialEq-eq, has-table-OutcomeClone-clone, has-slot_call-unshared, has-slot_call-resolve, has-slot_call-LocalClone-clone)

has-release_indication_slot-release_indication_slot : HasT (in_world program) true release_indication_slot.release_indication_slot.Symbol.code
has-release_indication_slot-release_indication_slot = release_indication_slot.Linked.linked-release_indication_slot program refl below-release_indication_slot

has-release_indication_slot-ReleaseIndicationSlotCallSlotCall-rule : HasT (in_world program) true release_indication_slot.ReleaseIndicationSlotCallSlotCall.rule.Symbol.code
has-release_indication_slot-ReleaseIndicationSlotCallSlotCall-rule = release_indication_slot.Linked.linked-ReleaseIndicationSlotCallSlotCall-rule program refl below-release_indication_slot

has-release_indication_slot-ReleaseIndicationSlotCallSlotCall-absent : HasT (in_world program) true release_indication_slot.ReleaseIndicationSlotCallSlotCall.absent.Symbol.code
has-release_indication_slot-ReleaseIndicationSlotCallSlotCall-absent = release_indication_slot.Linked.linked-ReleaseIndicationSlotCallSlotCall-absent program refl below-release_indication_slot

has-release_indication_slot-ReleaseIndicationSlotCallSlotCall-at : HasT (in_world program) true release_indication_slot.ReleaseIndicationSlotCallSlotCall.at.Symbol.code
has-release_indication_slot-ReleaseIndicationSlotCallSlotCall-at = release_indication_slot.Linked.linked-ReleaseIndicationSlotCallSlotCall-at program refl below-release_indication_slot

below-all_credits : all_credits.Linked.Below program
below-all_credits = search (has-refusal-RefusalPartialEq-eq, has-search-is_well_formed, has-table-Look-waking_nobody, has-table-OutcomeClone-clone, has-table-LookClone-clone)

has-all_credits-set_link_credits_in : HasT (in_world program) true all_credits.set_link_credits_in.Symbol.code
has-all_credits-set_link_credits_in = all_credits.Linked.linked-set_link_credits_in program refl below-all_credits

has-all_credits-set_link_credits : HasT (in_world program) true all_credits.set_link_credits.Symbol.code
has-all_credits-set_link_credits = all_credits.Linked.linked-set_link_credits program refl below-all_credits

below-total_lost : total_lost.Linked.Below program
below-total_lost = search (has-refusal-RefusalPartialEq-eq, has-search-is_well_formed, has-table-Look-waking_nobody, has-table-LookClone-clone)

has-total_lost-total_lost_in : HasT (in_world program) true total_lost.total_lost_in.Symbol.code
has-total_lost-total_lost_in = total_lost.Linked.linked-total_lost_in program refl below-total_lost

has-total_lost-total_lost : HasT (in_world program) true total_lost.total_lost.Symbol.code
has-total_lost-total_lost = total_lost.Linked.linked-total_lost program refl below-total_lost

below-confirm_sent : confirm_sent.Linked.Below program
below-confirm_sent = search (has-refusal-RefusalPartialEq-eq, has-table-OutcomeClone-clone, has-slot_call-unshared, has-slot_call-resolve, has-slot_call-LocalClone-clone)

has-confirm_sent-confirm_sent : HasT (in_world program) true confirm_sent.confirm_sent.Symbol.code
has-confirm_sent-confirm_sent = confirm_sent.Linked.linked-confirm_sent program refl below-confirm_sent

has-confirm_sent-ConfirmSentCallSlotCall-rule : HasT (in_world program) true confirm_sent.ConfirmSentCallSlotCall.rule.Symbol.code
has-confirm_sent-ConfirmSentCallSlotCall-rule = confirm_sent.Linked.linked-ConfirmSentCallSlotCall-rule program refl below-confirm_sent

has-confirm_sent-ConfirmSentCallSlotCall-absent : HasT (in_world program) true confirm_sent.ConfirmSentCallSlotCall.absent.Symbol.code
has-confirm_sent-ConfirmSentCallSlotCall-absent = confirm_sent.Linked.linked-ConfirmSentCallSlotCall-absent program refl below-confirm_sent

has-confirm_sent-ConfirmSentCallSlotCall-at : HasT (in_world program) true confirm_sent.ConfirmSentCallSlotCall.at.Symbol.code
has-confirm_sent-ConfirmSentCallSlotCall-at = confirm_sent.Linked.linked-ConfirmSentCallSlotCall-at program refl below-confirm_sent

below-has_link_credits : has_link_credits.Linked.Below program
below-has_link_credits = search (has-refusal-RefusalPartialEq-eq, has-table-LookClone-clone, has-slot_call-unshared, has-slot_call-resolve_look, has-slot_call-LocalClone-clone)

has-has_link_credits-has_link_credits : HasT (in_world program) true has_link_credits.has_link_credits.Symbol.code
has-has_link_credits-has_link_credits = has_link_credits.Linked.linked-has_link_credits program refl below-has_link_credits

has-has_link_credits-HasLinkCreditsCallSlotCall-rule : HasT (in_world program) true has_link_credits.HasLinkCreditsCallSlotCall.rule.Symbol.code
has-has_link_credits-HasLinkCreditsCallSlotCall-rule = has_link_credits.Linked.linked-HasLinkCreditsCallSlotCall-rule program refl below-has_link_credits

has-has_link_credits-HasLinkCreditsCallSlotCall-absent : HasT (in_world program) true has_link_credits.HasLinkCreditsCallSlotCall.absent.Symbol.code
has-has_link_credits-HasLinkCreditsCallSlotCall-absent = has_link_credits.Linked.linked-HasLinkCreditsCallSlotCall-absent program refl below-has_link_credits

has-has_link_credits-HasLinkCreditsCallSlotCall-at : HasT (in_world program) true has_link_credits.HasLinkCreditsCallSlotCall.at.Symbol.code
has-has_link_credits-HasLinkCreditsCallSlotCall-at = has_link_credits.Linked.linked-HasLinkCreditsCallSlotCall-at program refl below-has_link_credits

below-poll_request_to_send : poll_request_to_send.Linked.Below program
below-poll_request_to_send = search (has-refusal-RefusalPartialEq-eq, has-table-OutcomeClone-clone, has-slot_call-unshared, has-slot_call-resolve, has-slot_call-LocalClone-clone)

has-poll_request_to_send-poll_request_to_send : HasT (in_world program) true poll_request_to_send.poll_request_to_send.Symbol.code
has-poll_request_to_send-poll_request_to_send = poll_request_to_send.Linked.linked-poll_request_to_send program refl below-poll_request_to_send

has-poll_request_to_send-PollRequestToSendCallSlotCall-rule : HasT (in_world program) true poll_request_to_send.PollRequestToSendCallSlotCall.rule.Symbol.code
has-poll_request_to_send-PollRequestToSendCallSlotCall-rule = poll_request_to_send.Linked.linked-PollRequestToSendCallSlotCall-rule program refl below-poll_request_to_send

has-poll_request_to_send-PollRequestToSendCallSlotCall-absent : HasT (in_world program) true poll_request_to_send.PollRequestToSendCallSlotCall.absent.Symbol.code
has-poll_request_to_send-PollRequestToSendCallSlotCall-absent = poll_request_to_send.Linked.linked-PollRequestToSendCallSlotCall-absent program refl below-poll_request_to_send

has-poll_request_to_send-PollRequestToSendCallSlotCall-at : HasT (in_world program) true poll_request_to_send.PollRequestToSendCallSlotCall.at.Symbol.code
has-poll_request_to_send-PollRequestToSendCallSlotCall-at = poll_request_to_send.Linked.linked-PollRequestToSendCallSlotCall-at program refl below-poll_request_to_send

below-grant_end : grant_end.Linked.Below program
below-grant_end = search (has-refusal-RefusalPartialEq-eq, has-state-ConnectionState-is_live, has-table-OutcomeClone-clone, has-slot_call-unshared, has-slot_call-resolve, has-slot_call-LocalClone-clone)

has-grant_end-grant_end : HasT (in_world program) true grant_end.grant_end.Symbol.code
has-grant_end-grant_end = grant_end.Linked.linked-grant_end program refl below-grant_end

has-grant_end-GrantEndCallSlotCall-rule : HasT (in_world program) true grant_end.GrantEndCallSlotCall.rule.Symbol.code
has-grant_end-GrantEndCallSlotCall-rule = grant_end.Linked.linked-GrantEndCallSlotCall-rule program refl below-grant_end

has-grant_end-GrantEndCallSlotCall-absent : HasT (in_world program) true grant_end.GrantEndCallSlotCall.absent.Symbol.code
has-grant_end-GrantEndCallSlotCall-absent = grant_end.Linked.linked-GrantEndCallSlotCall-absent program refl below-grant_end

has-grant_end-GrantEndCallSlotCall-at : HasT (in_world program) true grant_end.GrantEndCallSlotCall.at.Symbol.code
has-grant_end-GrantEndCallSlotCall-at = grant_end.Linked.linked-GrantEndCallSlotCall-at program refl below-grant_end

below-poll_acquire_acl_send_lock : poll_acquire_acl_send_lock.Linked.Below program
below-poll_acquire_acl_send_lock = search (has-refusal-RefusalPartialEq-eq, has-table-OutcomeClone-clone, has-slot_call-unshared, has-slot_call-resolve, has-slot_call-LocalClone-clone)

has-poll_acquire_acl_send_lock-poll_acquire_acl_send_lock : HasT (in_world program) true poll_acquire_acl_send_lock.poll_acquire_acl_send_lock.Symbol.code
has-poll_acquire_acl_send_lock-poll_acquire_acl_send_lock = poll_acquire_acl_send_lock.Linked.linked-poll_acquire_acl_send_lock program refl below-poll_acquire_acl_send_lock

has-poll_acquire_acl_send_lock-PollAcquireAclSendLockCallSlotCall-rule : HasT (in_world program) true poll_acquire_acl_send_lock.PollAcquireAclSendLockCallSlotCall.rule.Symbol.code
has-poll_acquire_acl_send_lock-PollAcquireAclSendLockCallSlotCall-rule = poll_acquire_acl_send_lock.Linked.linked-PollAcquireAclSendLockCallSlotCall-rule program refl below-poll_acquire_acl_send_lock

has-poll_acquire_acl_send_lock-PollAcquireAclSendLockCallSlotCall-absent : HasT (in_world program) true poll_acquire_acl_send_lock.PollAcquireAclSendLockCallSlotCall.absent.Symbol.code
has-poll_acquire_acl_send_lock-PollAcquireAclSendLockCallSlotCall-absent = poll_acquire_acl_send_lock.Linked.linked-PollAcquireAclSendLockCallSlotCall-absent program refl below-poll_acquire_acl_send_lock

has-poll_acquire_acl_send_lock-PollAcquireAclSendLockCallSlotCall-at : HasT (in_world program) true poll_acquire_acl_send_lock.PollAcquireAclSendLockCallSlotCall.at.Symbol.code
has-poll_acquire_acl_send_lock-PollAcquireAclSendLockCallSlotCall-at = poll_acquire_acl_send_lock.Linked.linked-PollAcquireAclSendLockCallSlotCall-at program refl below-poll_acquire_acl_send_lock

below-unlock_acl_send : unlock_acl_send.Linked.Below program
below-unlock_acl_send = search (has-refusal-RefusalPartialEq-eq, has-state-ConnectionState-is_live, has-table-OutcomeClone-clone, has-slot_call-unshared, has-slot_call-resolve, has-slot_call-LocalClone-clone)

has-unlock_acl_send-unlock_acl_send : HasT (in_world program) true unlock_acl_send.unlock_acl_send.Symbol.code
has-unlock_acl_send-unlock_acl_send = unlock_acl_send.Linked.linked-unlock_acl_send program refl below-unlock_acl_send

has-unlock_acl_send-UnlockAclSendCallSlotCall-rule : HasT (in_world program) true unlock_acl_send.UnlockAclSendCallSlotCall.rule.Symbol.code
has-unlock_acl_send-UnlockAclSendCallSlotCall-rule = unlock_acl_send.Linked.linked-UnlockAclSendCallSlotCall-rule program refl below-unlock_acl_send

has-unlock_acl_send-UnlockAclSendCallSlotCall-absent : HasT (in_world program) true unlock_acl_send.UnlockAclSendCallSlotCall.absent.Symbol.code
has-unlock_acl_send-UnlockAclSendCallSlotCall-absent = unlock_acl_send.Linked.linked-UnlockAclSendCallSlotCall-absent program refl below-unlock_acl_send

has-unlock_acl_send-UnlockAclSendCallSlotCall-at : HasT (in_world program) true unlock_acl_send.UnlockAclSendCallSlotCall.at.Symbol.code
has-unlock_acl_send-UnlockAclSendCallSlotCall-at = unlock_acl_send.Linked.linked-UnlockAclSendCallSlotCall-at program refl below-unlock_acl_send

below-poll_request_from_pool : poll_request_from_pool.Linked.Below program
below-poll_request_from_pool = search (has-refusal-RefusalPartialEq-eq, has-pool-may_draw, has-table-OutcomeClone-clone, has-slot_call-unshared, has-slot_call-resolve, has-slot_call-LocalClone-clone)

has-poll_request_from_pool-poll_request_from_pool : HasT (in_world program) true poll_request_from_pool.poll_request_from_pool.Symbol.code
has-poll_request_from_pool-poll_request_from_pool = poll_request_from_pool.Linked.linked-poll_request_from_pool program refl below-poll_request_from_pool

has-poll_request_from_pool-PollRequestFromPoolCallSlotCall-rule : HasT (in_world program) true poll_request_from_pool.PollRequestFromPoolCallSlotCall.rule.Symbol.code
has-poll_request_from_pool-PollRequestFromPoolCallSlotCall-rule = poll_request_from_pool.Linked.linked-PollRequestFromPoolCallSlotCall-rule program refl below-poll_request_from_pool

has-poll_request_from_pool-PollRequestFromPoolCallSlotCall-absent : HasT (in_world program) true poll_request_from_pool.PollRequestFromPoolCallSlotCall.absent.Symbol.code
has-poll_request_from_pool-PollRequestFromPoolCallSlotCall-absent = poll_request_from_pool.Linked.linked-PollRequestFromPoolCallSlotCall-absent program refl below-poll_request_from_pool

has-poll_request_from_pool-PollRequestFromPoolCallSlotCall-at : HasT (in_world program) true poll_request_from_pool.PollRequestFromPoolCallSlotCall.at.Symbol.code
has-poll_request_from_pool-PollRequestFromPoolCallSlotCall-at = poll_request_from_pool.Linked.linked-PollRequestFromPoolCallSlotCall-at program refl below-poll_request_from_pool

below-pool_returns : pool_returns.Linked.Below program
below-pool_returns = search (has-refusal-RefusalPartialEq-eq, has-state-ConnectionState-is_live, has-table-OutcomeClone-clone, has-slot_call-unshared, has-slot_call-resolve, has-slot_call-LocalClone-clone)

has-pool_returns-pool_confirm_sent : HasT (in_world program) true pool_returns.pool_confirm_sent.Symbol.code
has-pool_returns-pool_confirm_sent = pool_returns.Linked.linked-pool_confirm_sent program refl below-pool_returns

has-pool_returns-pool_grant_end : HasT (in_world program) true pool_returns.pool_grant_end.Symbol.code
has-pool_returns-pool_grant_end = pool_returns.Linked.linked-pool_grant_end program refl below-pool_returns

has-pool_returns-PoolConfirmSentCallSlotCall-rule : HasT (in_world program) true pool_returns.PoolConfirmSentCallSlotCall.rule.Symbol.code
has-pool_returns-PoolConfirmSentCallSlotCall-rule = pool_returns.Linked.linked-PoolConfirmSentCallSlotCall-rule program refl below-pool_returns

has-pool_returns-PoolConfirmSentCallSlotCall-absent : HasT (in_world program) true pool_returns.PoolConfirmSentCallSlotCall.absent.Symbol.code
has-pool_returns-PoolConfirmSentCallSlotCall-absent = pool_returns.Linked.linked-PoolConfirmSentCallSlotCall-absent program refl below-pool_returns

has-pool_returns-PoolConfirmSentCallSlotCall-at : HasT (in_world program) true pool_returns.PoolConfirmSentCallSlotCall.at.Symbol.code
has-pool_returns-PoolConfirmSentCallSlotCall-at = pool_returns.Linked.linked-PoolConfirmSentCallSlotCall-at program refl below-pool_returns

has-pool_returns-PoolGrantEndCallSlotCall-rule : HasT (in_world program) true pool_returns.PoolGrantEndCallSlotCall.rule.Symbol.code
has-pool_returns-PoolGrantEndCallSlotCall-rule = pool_returns.Linked.linked-PoolGrantEndCallSlotCall-rule program refl below-pool_returns

has-pool_returns-PoolGrantEndCallSlotCall-absent : HasT (in_world program) true pool_returns.PoolGrantEndCallSlotCall.absent.Symbol.code
has-pool_returns-PoolGrantEndCallSlotCall-absent = pool_returns.Linked.linked-PoolGrantEndCallSlotCall-absent program refl below-pool_returns

has-pool_returns-PoolGrantEndCallSlotCall-at : HasT (in_world program) true pool_returns.PoolGrantEndCallSlotCall.at.Symbol.code
has-pool_returns-PoolGrantEndCallSlotCall-at = pool_returns.Linked.linked-PoolGrantEndCallSlotCall-at program refl below-pool_returns

below-calls : calls.Linked.Below program
below-calls = search (has-refusal-RefusalPartialEq-eq, has-slot-LeConnRolePartialEq-eq, has-table-OutcomeClone-clone, has-table-LookClone-clone, has-slot_call-resolve_in, has-inc_ref-IncRefCallSlotCall-rule, has-inc_ref-IncRefCallSlotCall-absent, has-inc_ref-IncRefCallSlotCall-at, has-dec_ref-DecRefCallSlotCall-rule, has-dec_ref-DecRefCallSlotCall-absent, has-dec_ref-DecRefCallSlotCall-at, has-connect-ConnectCallSlotCall-rule, has-connect-ConnectCallSlotCall-absent, has-connect-ConnectCallSlotCall-at, has-lookup-GetConnectedHandleCallSlotCall-rule, has-lookup-GetConnectedHandleCallSlotCall-absent, has-lookup-GetConnectedHandleCallSlotCall-at, has-lookup-GetConnectionByPeerAddressCallSlotCall-rule, has-lookup-GetConnectionByPeerAddressCallSlotCall-absent, has-lookup-GetConnectionByPeerAddressCallSlotCall-at, has-accept-PollAcceptAnyCallSlotCall-rule, has-accept-PollAcceptAnyCallSlotCall-absent, has-accept-PollAcceptAnyCallSlotCall-at, has-request_disconnect-RequestDisconnectCallSlotCall-rule, has-request_disconnect-RequestDisconnectCallSlotCall-absent, has-request_disconnect-RequestDisconnectCallSlotCall-at, has-request_disconnect-RequestHandleDisconnectCallSlotCall-rule, has-request_disconnect-RequestHandleDisconnectCallSlotCall-absent, has-request_disconnect-RequestHandleDisconnectCallSlotCall-at, has-poll_disconnecting-PollDisconnectingCallSlotCall-rule, has-poll_disconnecting-PollDisconnectingCallSlotCall-absent, has-poll_disconnecting-PollDisconnectingCallSlotCall-at, has-withdraw_disconnect-WithdrawDisconnectCallSlotCall-rule, has-withdraw_disconnect-WithdrawDisconnectCallSlotCall-absent, has-withdraw_disconnect-WithdrawDisconnectCallSlotCall-at, has-confirm-ConfirmCallSlotCall-rule, has-confirm-ConfirmCallSlotCall-absent, has-confirm-ConfirmCallSlotCall-at, has-disconnected-DisconnectedCallSlotCall-rule, has-disconnected-DisconnectedCallSlotCall-absent, has-disconnected-DisconnectedCallSlotCall-at, has-att_mtu-ExchangeAttMtuCallSlotCall-rule, has-att_mtu-ExchangeAttMtuCallSlotCall-absent, has-att_mtu-ExchangeAttMtuCallSlotCall-at, has-att_mtu-GetAttMtuHandleCallSlotCall-rule, has-att_mtu-GetAttMtuHandleCallSlotCall-absent, has-att_mtu-GetAttMtuHandleCallSlotCall-at, has-negotiated_mtu-NegotiateAttMtuCallSlotCall-rule, has-negotiated_mtu-NegotiateAttMtuCallSlotCall-absent, has-negotiated_mtu-NegotiateAttMtuCallSlotCall-at, has-negotiated_mtu-GetStoredAttMtuCallSlotCall-rule, has-negotiated_mtu-GetStoredAttMtuCallSlotCall-absent, has-negotiated_mtu-GetStoredAttMtuCallSlotCall-at, has-signal_indication_confirmation-SignalIndicationConfirmationCallSlotCall-rule, has-signal_indication_confirmation-SignalIndicationConfirmationCallSlotCall-absent, has-signal_indication_confirmation-SignalIndicationConfirmationCallSlotCall-at, has-wait_indication_confirmation-WaitIndicationConfirmationCallSlotCall-rule, has-wait_indication_confirmation-WaitIndicationConfirmationCallSlotCall-absent, has-wait_indication_confirmation-WaitIndicationConfirmationCallSlotCall-at, has-post_handle_event-PostHandleEventCallSlotCall-rule, has-post_handle_event-PostHandleEventCallSlotCall-absent, has-post_handle_event-PostHandleEventCallSlotCall-at, has-next-NextCallSlotCall-rule, has-next-NextCallSlotCall-absent, has-next-NextCallSlotCall-at, has-acquire_indication_slot-AcquireIndicationSlotCallSlotCall-rule, has-acquire_indication_slot-AcquireIndicationSlotCallSlotCall-absent, has-acquire_indication_slot-AcquireIndicationSlotCallSlotCall-at, has-release_indication_slot-ReleaseIndicationSlotCallSlotCall-rule, has-release_indication_slot-ReleaseIndicationSlotCallSlotCall-absent, has-release_indication_slot-ReleaseIndicationSlotCallSlotCall-at, has-all_credits-set_link_credits_in, has-total_lost-total_lost_in, has-confirm_sent-ConfirmSentCallSlotCall-rule, has-confirm_sent-ConfirmSentCallSlotCall-absent, has-confirm_sent-ConfirmSentCallSlotCall-at, has-has_link_credits-HasLinkCreditsCallSlotCall-rule, has-has_link_credits-HasLinkCreditsCallSlotCall-absent, has-has_link_credits-HasLinkCreditsCallSlotCall-at, has-poll_request_to_send-PollRequestToSendCallSlotCall-rule, has-poll_request_to_send-PollRequestToSendCallSlotCall-absent, has-poll_request_to_send-PollRequestToSendCallSlotCall-at, has-grant_end-GrantEndCallSlotCall-rule, has-grant_end-GrantEndCallSlotCall-absent, has-grant_end-GrantEndCallSlotCall-at, has-poll_acquire_acl_send_lock-PollAcquireAclSendLockCallSlotCall-rule, has-poll_acquire_acl_send_lock-PollAcquireAclSendLockCallSlotCall-absent, has-poll_acquire_acl_send_lock-PollAcquireAclSendLockCallSlotCall-at, has-unlock_acl_send-UnlockAclSendCallSlotCall-rule, has-unlock_acl_send-UnlockAclSendCallSlotCall-absent, has-unlock_acl_send-UnlockAclSendCallSlotCall-at, has-poll_request_from_pool-PollRequestFromPoolCallSlotCall-rule, has-poll_request_from_pool-PollRequestFromPoolCallSlotCall-absent, has-poll_request_from_pool-PollRequestFromPoolCallSlotCall-at, has-pool_returns-PoolConfirmSentCallSlotCall-rule, has-pool_returns-PoolConfirmSentCallSlotCall-absent, has-pool_returns-PoolConfirmSentCallSlotCall-at, has-pool_returns-PoolGrantEndCallSlotCall-rule, has-pool_returns-PoolGrantEndCallSlotCall-absent, has-pool_returns-PoolGrantEndCallSlotCall-at)

has-calls-run_call_in : HasT (in_world program) true calls.run_call_in.Symbol.code
has-calls-run_call_in = calls.Linked.linked-run_call_in program refl below-calls

has-calls-run_call : HasT (in_world program) true calls.run_call.Symbol.code
has-calls-run_call = calls.Linked.linked-run_call program refl below-calls

has-calls-CallAnswerClone-clone : HasT (in_world program) true calls.CallAnswerClone.clone.Symbol.code
has-calls-CallAnswerClone-clone = calls.Linked.linked-CallAnswerClone-clone program refl below-calls

has-calls-CallOutcomeClone-clone : HasT (in_world program) true calls.CallOutcomeClone.clone.Symbol.code
has-calls-CallOutcomeClone-clone = calls.Linked.linked-CallOutcomeClone-clone program refl below-calls

has-calls-CallLookClone-clone : HasT (in_world program) true calls.CallLookClone.clone.Symbol.code
has-calls-CallLookClone-clone = calls.Linked.linked-CallLookClone-clone program refl below-calls

has-limits-within : HasT (in_world program) true limits.within.Symbol.code
has-limits-within = limits.Linked.linked-within program refl tt

below-wire : wire.Linked.Below program
below-wire = search (has-refusal-RefusalPartialEq-eq)

has-wire-byte_at : HasT (in_world program) true wire.byte_at.Symbol.code
has-wire-byte_at = wire.Linked.linked-byte_at program refl below-wire

has-wire-u16_at : HasT (in_world program) true wire.u16_at.Symbol.code
has-wire-u16_at = wire.Linked.linked-u16_at program refl below-wire

has-wire-low_byte : HasT (in_world program) true wire.low_byte.Symbol.code
has-wire-low_byte = wire.Linked.linked-low_byte program refl below-wire

has-wire-high_byte : HasT (in_world program) true wire.high_byte.Symbol.code
has-wire-high_byte = wire.Linked.linked-high_byte program refl below-wire

has-wire-put : HasT (in_world program) true wire.put.Symbol.code
has-wire-put = wire.Linked.linked-put program refl below-wire

below-peer_records : peer_records.Linked.Below program
below-peer_records = search (has-slot-U8FromLeConnRole-from, has-slot-LeConnRolePartialEq-eq, has-rule-same_address, has-wire-byte_at, has-wire-u16_at)

has-peer_records-is_file : HasT (in_world program) true peer_records.is_file.Symbol.code
has-peer_records-is_file = peer_records.Linked.linked-is_file program refl below-peer_records

has-peer_records-records_fit : HasT (in_world program) true peer_records.records_fit.Symbol.code
has-peer_records-records_fit = peer_records.Linked.linked-records_fit program refl below-peer_records

has-peer_records-in_force : HasT (in_world program) true peer_records.in_force.Symbol.code
has-peer_records-in_force = peer_records.Linked.linked-in_force program refl below-peer_records

below-accept_recorded : accept_recorded.Linked.Below program
below-accept_recorded = search (has-refusal-RefusalPartialEq-eq, has-slot-LeConnRolePartialEq-eq, has-search-is_well_formed, has-table-OutcomeClone-clone, has-accept-poll_accept_among, has-peer_records-is_file, has-peer_records-records_fit, has-peer_records-in_force)

has-accept_recorded-poll_accept_recorded : HasT (in_world program) true accept_recorded.poll_accept_recorded.Symbol.code
has-accept_recorded-poll_accept_recorded = accept_recorded.Linked.linked-poll_accept_recorded program refl below-accept_recorded

has-accept_recorded-RecordedPeersPeerSet-contains : HasT (in_world program) true accept_recorded.RecordedPeersPeerSet.contains.Symbol.code
has-accept_recorded-RecordedPeersPeerSet-contains = accept_recorded.Linked.linked-RecordedPeersPeerSet-contains program refl below-accept_recorded

below-hci : hci.Linked.Below program
below-hci = search (has-limits-within)

has-hci-HciEvent-of_form : HasT (in_world program) true hci.HciEvent.of_form.Symbol.code
has-hci-HciEvent-of_form = hci.Linked.linked-HciEvent-of_form program refl below-hci

below-hci_read : hci_read.Linked.Below program
below-hci_read = search (has-wire-byte_at, has-wire-u16_at, has-hci-HciEvent-of_form)

has-hci_read-read : HasT (in_world program) true hci_read.read.Symbol.code
has-hci_read-read = hci_read.Linked.linked-read program refl below-hci_read

below-hci_write : hci_write.Linked.Below program
below-hci_write = search (has-refusal-RefusalPartialEq-eq, has-wire-low_byte, has-wire-high_byte, has-wire-put, has-hci-HciEvent-of_form)

has-hci_write-write : HasT (in_world program) true hci_write.write.Symbol.code
has-hci_write-write = hci_write.Linked.linked-write program refl below-hci_write

below-completed_packets : completed_packets.Linked.Below program
below-completed_packets = search (has-limits-within, has-wire-u16_at)

has-completed_packets-pair_in : HasT (in_world program) true completed_packets.pair_in.Symbol.code
has-completed_packets-pair_in = completed_packets.Linked.linked-pair_in program refl below-completed_packets

has-completed_packets-read : HasT (in_world program) true completed_packets.read.Symbol.code
has-completed_packets-read = completed_packets.Linked.linked-read program refl below-completed_packets

has-completed_packets-pair_at : HasT (in_world program) true completed_packets.pair_at.Symbol.code
has-completed_packets-pair_at = completed_packets.Linked.linked-pair_at program refl below-completed_packets

below-completed_packets_write : completed_packets_write.Linked.Below program
below-completed_packets_write = search (has-refusal-RefusalPartialEq-eq, has-limits-within, has-wire-low_byte, has-wire-high_byte, has-hci-HciEvent-of_form)

has-completed_packets_write-write : HasT (in_world program) true completed_packets_write.write.Symbol.code
has-completed_packets_write-write = completed_packets_write.Linked.linked-write program refl below-completed_packets_write

has-completed_packets_write-write_columns : HasT (in_world program) true completed_packets_write.write_columns.Symbol.code
has-completed_packets_write-write_columns = completed_packets_write.Linked.linked-write_columns program refl below-completed_packets_write

below-att_pdu : att_pdu.Linked.Below program
below-att_pdu = search (has-limits-within, has-wire-byte_at, has-wire-u16_at)

has-att_pdu-read : HasT (in_world program) true att_pdu.read.Symbol.code
has-att_pdu-read = att_pdu.Linked.linked-read program refl below-att_pdu

has-att_pdu-indication_value : HasT (in_world program) true att_pdu.indication_value.Symbol.code
has-att_pdu-indication_value = att_pdu.Linked.linked-indication_value program refl below-att_pdu

below-att_pdu_write : att_pdu_write.Linked.Below program
below-att_pdu_write = search (has-refusal-RefusalPartialEq-eq, has-limits-within, has-wire-low_byte, has-wire-high_byte, has-wire-put)

has-att_pdu_write-write : HasT (in_world program) true att_pdu_write.write.Symbol.code
has-att_pdu_write-write = att_pdu_write.Linked.linked-write program refl below-att_pdu_write

has-att_pdu_write-write_handle_value_ind : HasT (in_world program) true att_pdu_write.write_handle_value_ind.Symbol.code
has-att_pdu_write-write_handle_value_ind = att_pdu_write.Linked.linked-write_handle_value_ind program refl below-att_pdu_write

below-woken_set : woken_set.Linked.Below program
below-woken_set = search (has-slot-ConnectionStorage-new)

has-woken_set-WokenSet-new : HasT (in_world program) true woken_set.WokenSet.new.Symbol.code
has-woken_set-WokenSet-new = woken_set.Linked.linked-WokenSet-new program refl below-woken_set

has-woken_set-WokenSet-add : HasT (in_world program) true woken_set.WokenSet.add.Symbol.code
has-woken_set-WokenSet-add = woken_set.Linked.linked-WokenSet-add program refl below-woken_set

has-woken_set-WokenSet-join : HasT (in_world program) true woken_set.WokenSet.join.Symbol.code
has-woken_set-WokenSet-join = woken_set.Linked.linked-WokenSet-join program refl below-woken_set

below-received : received.Linked.Below program
below-received = search (has-refusal-RefusalPartialEq-eq, has-event_queue-EventQueue-new, has-slot-ConnectionStorage-new, has-search-is_well_formed, has-table-new, has-table-OutcomeClone-clone, has-woken_set-WokenSet-new, has-woken_set-WokenSet-add)

has-received-refused : HasT (in_world program) true received.refused.Symbol.code
has-received-refused = received.Linked.linked-refused program refl below-received

has-received-idle : HasT (in_world program) true received.idle.Symbol.code
has-received-idle = received.Linked.linked-idle program refl below-received

has-received-one : HasT (in_world program) true received.one.Symbol.code
has-received-one = received.Linked.linked-one program refl below-received

has-received-ReceivedClone-clone : HasT (in_world program) true received.ReceivedClone.clone.Symbol.code
has-received-ReceivedClone-clone = received.Linked.linked-ReceivedClone-clone program refl below-received

below-host_event : host_event.Linked.Below program
below-host_event = search (has-refusal-RefusalPartialEq-eq, has-slot-LeConnRolePartialEq-eq, has-connect-connect, has-disconnected-disconnected, has-post_handle_event-post_handle_event, has-hci-HciEvent-of_form, has-received-refused, has-received-idle, has-received-one, has-received-ReceivedClone-clone)

has-host_event-received_event : HasT (in_world program) true host_event.received_event.Symbol.code
has-host_event-received_event = host_event.Linked.linked-received_event program refl below-host_event

has-host_event-EventGivesFromCallUnit-from_call : HasT (in_world program) true host_event.EventGivesFromCallUnit.from_call.Symbol.code
has-host_event-EventGivesFromCallUnit-from_call = host_event.Linked.linked-EventGivesFromCallUnit-from_call program refl below-host_event

below-host_pairs : host_pairs.Linked.Below program
below-host_pairs = search (has-refusal-RefusalPartialEq-eq, has-slot-ConnectionStorage-new, has-search-is_well_formed, has-table-new, has-confirm_sent-confirm_sent, has-completed_packets-pair_in, has-completed_packets-read, has-woken_set-WokenSet-new, has-woken_set-WokenSet-add, has-received-refused, has-received-ReceivedClone-clone, has-host_event-EventGivesFromCallUnit-from_call)

has-host_pairs-received_pairs : HasT (in_world program) true host_pairs.received_pairs.Symbol.code
has-host_pairs-received_pairs = host_pairs.Linked.linked-received_pairs program refl below-host_pairs

below-host : host.Linked.Below program
below-host = search (has-hci_read-read, has-received-ReceivedClone-clone, has-host_event-received_event, has-host_event-EventGivesFromCallUnit-from_call, has-host_pairs-received_pairs)

has-host-received : HasT (in_world program) true host.received.Symbol.code
has-host-received = host.Linked.linked-received program refl below-host

below-host_att : host_att.Linked.Below program
below-host_att = search (has-refusal-RefusalPartialEq-eq, has-negotiated_mtu-negotiate_att_mtu, has-signal_indication_confirmation-signal_indication_confirmation, has-att_pdu-read, has-received-refused, has-received-idle, has-received-one, has-received-ReceivedClone-clone)

has-host_att-received_att : HasT (in_world program) true host_att.received_att.Symbol.code
has-host_att-received_att = host_att.Linked.linked-received_att program refl below-host_att

has-host_att-AttGivesFromCallU16-from_call : HasT (in_world program) true host_att.AttGivesFromCallU16.from_call.Symbol.code
has-host_att-AttGivesFromCallU16-from_call = host_att.Linked.linked-AttGivesFromCallU16-from_call program refl below-host_att

has-host_att-AttGivesFromCallUnit-from_call : HasT (in_world program) true host_att.AttGivesFromCallUnit.from_call.Symbol.code
has-host_att-AttGivesFromCallUnit-from_call = host_att.Linked.linked-AttGivesFromCallUnit-from_call program refl below-host_att

below-roster : roster.Linked.Below program
below-roster = search (has-refusal-RefusalPartialEq-eq, has-state-ConnectionState-is_open, has-search-is_well_formed, has-table-Look-waking_nobody, has-table-LookClone-clone, has-wire-low_byte, has-wire-high_byte)

has-roster-roster : HasT (in_world program) true roster.roster.Symbol.code
has-roster-roster = roster.Linked.linked-roster program refl below-roster

below-big_endian : big_endian.Linked.Below program
below-big_endian = search (has-wire-byte_at)

has-big_endian-u64_at : HasT (in_world program) true big_endian.u64_at.Symbol.code
has-big_endian-u64_at = big_endian.Linked.linked-u64_at program refl below-big_endian

has-big_endian-u32_at : HasT (in_world program) true big_endian.u32_at.Symbol.code
has-big_endian-u32_at = big_endian.Linked.linked-u32_at program refl below-big_endian

has-big_endian_write-put_number : HasT (in_world program) true big_endian_write.put_number.Symbol.code
has-big_endian_write-put_number = big_endian_write.Linked.linked-put_number program refl tt

has-big_endian_write-put_bytes : HasT (in_world program) true big_endian_write.put_bytes.Symbol.code
has-big_endian_write-put_bytes = big_endian_write.Linked.linked-put_bytes program refl tt

below-btsnoop_read : btsnoop_read.Linked.Below program
below-btsnoop_read = search (has-big_endian-u64_at, has-big_endian-u32_at)

has-btsnoop_read-is_header : HasT (in_world program) true btsnoop_read.is_header.Symbol.code
has-btsnoop_read-is_header = btsnoop_read.Linked.linked-is_header program refl below-btsnoop_read

has-btsnoop_read-is_whole : HasT (in_world program) true btsnoop_read.is_whole.Symbol.code
has-btsnoop_read-is_whole = btsnoop_read.Linked.linked-is_whole program refl below-btsnoop_read

has-btsnoop_read-head_at : HasT (in_world program) true btsnoop_read.head_at.Symbol.code
has-btsnoop_read-head_at = btsnoop_read.Linked.linked-head_at program refl below-btsnoop_read

has-btsnoop_read-record_at : HasT (in_world program) true btsnoop_read.record_at.Symbol.code
has-btsnoop_read-record_at = btsnoop_read.Linked.linked-record_at program refl below-btsnoop_read

below-btsnoop_put : btsnoop_put.Linked.Below program
below-btsnoop_put = search (has-big_endian_write-put_number, has-big_endian_write-put_bytes)

has-btsnoop_put-put_header : HasT (in_world program) true btsnoop_put.put_header.Symbol.code
has-btsnoop_put-put_header = btsnoop_put.Linked.linked-put_header program refl below-btsnoop_put

has-btsnoop_put-put_record : HasT (in_world program) true btsnoop_put.put_record.Symbol.code
has-btsnoop_put-put_record = btsnoop_put.Linked.linked-put_record program refl below-btsnoop_put

below-btsnoop_write : btsnoop_write.Linked.Below program
below-btsnoop_write = search (has-refusal-RefusalPartialEq-eq, has-hci-HciEvent-of_form, has-hci_read-read, has-completed_packets-read, has-btsnoop_put-put_header, has-btsnoop_put-put_record)

has-btsnoop_write-is_read : HasT (in_world program) true btsnoop_write.is_read.Symbol.code
has-btsnoop_write-is_read = btsnoop_write.Linked.linked-is_read program refl below-btsnoop_write

has-btsnoop_write-write : HasT (in_world program) true btsnoop_write.write.Symbol.code
has-btsnoop_write-write = btsnoop_write.Linked.linked-write program refl below-btsnoop_write

has-btsnoop_write-write_columns : HasT (in_world program) true btsnoop_write.write_columns.Symbol.code
has-btsnoop_write-write_columns = btsnoop_write.Linked.linked-write_columns program refl below-btsnoop_write

below-btsnoop_measure : btsnoop_measure.Linked.Below program
below-btsnoop_measure = search (has-btsnoop_read-record_at)

has-btsnoop_measure-measure_all : HasT (in_world program) true btsnoop_measure.measure_all.Symbol.code
has-btsnoop_measure-measure_all = btsnoop_measure.Linked.linked-measure_all program refl below-btsnoop_measure

below-to_columns : to_columns.Linked.Below program
below-to_columns = search (has-refusal-RefusalPartialEq-eq, has-big_endian-u32_at, has-big_endian_write-put_number, has-big_endian_write-put_bytes, has-btsnoop_read-is_header, has-btsnoop_read-record_at, has-btsnoop_put-put_header, has-btsnoop_measure-measure_all)

has-to_columns-to_columns : HasT (in_world program) true to_columns.to_columns.Symbol.code
has-to_columns-to_columns = to_columns.Linked.linked-to_columns program refl below-to_columns

below-from_columns : from_columns.Linked.Below program
below-from_columns = search (has-refusal-RefusalPartialEq-eq, has-big_endian-u64_at, has-big_endian-u32_at, has-btsnoop_read-is_header, has-btsnoop_put-put_header, has-btsnoop_put-put_record)

has-from_columns-from_columns : HasT (in_world program) true from_columns.from_columns.Symbol.code
has-from_columns-from_columns = from_columns.Linked.linked-from_columns program refl below-from_columns

below-host_record : host_record.Linked.Below program
below-host_record = search (has-refusal-RefusalPartialEq-eq, has-received-refused, has-received-ReceivedClone-clone, has-host_event-EventGivesFromCallUnit-from_call, has-host-received)

has-host_record-received_record : HasT (in_world program) true host_record.received_record.Symbol.code
has-host_record-received_record = host_record.Linked.linked-received_record program refl below-host_record

below-host_recording : host_recording.Linked.Below program
below-host_recording = search (has-refusal-RefusalPartialEq-eq, has-slot-ConnectionStorage-new, has-search-is_well_formed, has-woken_set-WokenSet-new, has-woken_set-WokenSet-join, has-received-ReceivedClone-clone, has-host_event-EventGivesFromCallUnit-from_call, has-big_endian-u32_at, has-btsnoop_read-is_header, has-btsnoop_read-record_at, has-host_record-received_record)

has-host_recording-replay_recording : HasT (in_world program) true host_recording.replay_recording.Symbol.code
has-host_recording-replay_recording = host_recording.Linked.linked-replay_recording program refl below-host_recording

has-text-put : HasT (in_world program) true text.put.Symbol.code
has-text-put = text.Linked.linked-put program refl tt

has-text-put_all : HasT (in_world program) true text.put_all.Symbol.code
has-text-put_all = text.Linked.linked-put_all program refl tt

has-text-put_hex : HasT (in_world program) true text.put_hex.Symbol.code
has-text-put_hex = text.Linked.linked-put_hex program refl tt

has-text_read-number_at : HasT (in_world program) true text_read.number_at.Symbol.code
has-text_read-number_at = text_read.Linked.linked-number_at program refl tt

has-text_read-bytes_at : HasT (in_world program) true text_read.bytes_at.Symbol.code
has-text_read-bytes_at = text_read.Linked.linked-bytes_at program refl tt

below-number_text : number_text.Linked.Below program
below-number_text = search (has-text-put)

has-number_text-put_number : HasT (in_world program) true number_text.put_number.Symbol.code
has-number_text-put_number = number_text.Linked.linked-put_number program refl below-number_text

has-number_text-put_behind : HasT (in_world program) true number_text.put_behind.Symbol.code
has-number_text-put_behind = number_text.Linked.linked-put_behind program refl below-number_text

has-number_text-put_numbers : HasT (in_world program) true number_text.put_numbers.Symbol.code
has-number_text-put_numbers = number_text.Linked.linked-put_numbers program refl below-number_text

has-number_text-bit : HasT (in_world program) true number_text.bit.Symbol.code
has-number_text-bit = number_text.Linked.linked-bit program refl below-number_text

has-number_text-put_flag : HasT (in_world program) true number_text.put_flag.Symbol.code
has-number_text-put_flag = number_text.Linked.linked-put_flag program refl below-number_text

below-woken_text : woken_text.Linked.Below program
below-woken_text = search (has-text-put, has-text-put_all, has-number_text-put_behind)

has-woken_text-put_woken : HasT (in_world program) true woken_text.put_woken.Symbol.code
has-woken_text-put_woken = woken_text.Linked.linked-put_woken program refl below-woken_text

below-event_text : event_text.Linked.Below program
below-event_text = search (has-event_queue-U8FromPhyKind-from, has-text-put, has-number_text-put_number, has-number_text-put_numbers)

has-event_text-put_event : HasT (in_world program) true event_text.put_event.Symbol.code
has-event_text-put_event = event_text.Linked.linked-put_event program refl below-event_text

has-event_text-put_queue : HasT (in_world program) true event_text.put_queue.Symbol.code
has-event_text-put_queue = event_text.Linked.linked-put_queue program refl below-event_text

below-slot_text : slot_text.Linked.Below program
below-slot_text = search (has-state-U8FromDisconnectReason-from, has-event_queue-U8FromPhyKind-from, has-slot-U8FromLeConnRole-from, has-text-put, has-text-put_all, has-text-put_hex, has-number_text-put_behind, has-number_text-put_numbers, has-number_text-bit, has-event_text-put_queue)

has-slot_text-put_slot : HasT (in_world program) true slot_text.put_slot.Symbol.code
has-slot_text-put_slot = slot_text.Linked.linked-put_slot program refl below-slot_text

below-table_text : table_text.Linked.Below program
below-table_text = search (has-total_lost-total_lost_in, has-text-put_all, has-number_text-put_number, has-number_text-put_behind, has-number_text-put_numbers, has-slot_text-put_slot)

has-table_text-put_table : HasT (in_world program) true table_text.put_table.Symbol.code
has-table_text-put_table = table_text.Linked.linked-put_table program refl below-table_text

pub «refusal::U8FromRefusal::from» : Returns refusal'.U8FromRefusal.from.signature (λ 𝓤. refusal'.U8FromRefusal.from.spec) (tie_t (in_world program) refusal.U8FromRefusal.from.Symbol.name)
«refusal::U8FromRefusal::from» = everywhere.«refusal::U8FromRefusal::from» (tie_t (in_world program)) (in_program (in_world program) refusal.U8FromRefusal.from.Symbol.code has-refusal-U8FromRefusal-from)

pub «refusal::RefusalPartialEq::eq» : Returns refusal'.RefusalPartialEq.eq.signature (λ 𝓤. refusal'.RefusalPartialEq.eq.spec) (tie_t (in_world program) refusal.RefusalPartialEq.eq.Symbol.name)
«refusal::RefusalPartialEq::eq» = everywhere.«refusal::RefusalPartialEq::eq» (tie_t (in_world program)) (in_program (in_world program) refusal.RefusalPartialEq.eq.Symbol.code has-refusal-RefusalPartialEq-eq)

pub «state::ConnectionState::is_live» : Returns state'.ConnectionState.is_live.signature (λ 𝓤. state'.ConnectionState.is_live.spec) (tie_t (in_world program) state.ConnectionState.is_live.Symbol.name)
«state::ConnectionState::is_live» = everywhere.«state::ConnectionState::is_live» (tie_t (in_world program)) (in_program (in_world program) state.ConnectionState.is_live.Symbol.code has-state-ConnectionState-is_live)

pub «state::ConnectionState::is_connected» : Returns state'.ConnectionState.is_connected.signature (λ 𝓤. state'.ConnectionState.is_connected.spec) (tie_t (in_world program) state.ConnectionState.is_connected.Symbol.name)
«state::ConnectionState::is_connected» = everywhere.«state::ConnectionState::is_connected» (tie_t (in_world program)) (in_program (in_world program) state.ConnectionState.is_connected.Symbol.code has-state-ConnectionState-is_connected)

pub «state::ConnectionState::is_open» : Returns state'.ConnectionState.is_open.signature (λ 𝓤. state'.ConnectionState.is_open.spec) (tie_t (in_world program) state.ConnectionState.is_open.Symbol.name)
«state::ConnectionState::is_open» = everywhere.«state::ConnectionState::is_open» (tie_t (in_world program)) (in_program (in_world program) state.ConnectionState.is_open.Symbol.code has-state-ConnectionState-is_open)

pub «state::ConnectionState::is_requesting» : Returns state'.ConnectionState.is_requesting.signature (λ 𝓤. state'.ConnectionState.is_requesting.spec) (tie_t (in_world program) state.ConnectionState.is_requesting.Symbol.name)
«state::ConnectionState::is_requesting» = everywhere.«state::ConnectionState::is_requesting» (tie_t (in_world program)) (in_program (in_world program) state.ConnectionState.is_requesting.Symbol.code has-state-ConnectionState-is_requesting)

pub «state::ConnectionState::is_connecting» : Returns state'.ConnectionState.is_connecting.signature (λ 𝓤. state'.ConnectionState.is_connecting.spec) (tie_t (in_world program) state.ConnectionState.is_connecting.Symbol.name)
«state::ConnectionState::is_connecting» = everywhere.«state::ConnectionState::is_connecting» (tie_t (in_world program)) (in_program (in_world program) state.ConnectionState.is_connecting.Symbol.code has-state-ConnectionState-is_connecting)

pub «state::U8FromDisconnectReason::from» : Returns state'.U8FromDisconnectReason.from.signature (λ 𝓤. state'.U8FromDisconnectReason.from.spec) (tie_t (in_world program) state.U8FromDisconnectReason.from.Symbol.name)
«state::U8FromDisconnectReason::from» = everywhere.«state::U8FromDisconnectReason::from» (tie_t (in_world program)) (in_program (in_world program) state.U8FromDisconnectReason.from.Symbol.code has-state-U8FromDisconnectReason-from)

pub «event_queue::EventQueue::new» : Returns event_queue'.EventQueue.new.signature (λ 𝓤. event_queue'.EventQueue.new.spec) (tie_t (in_world program) event_queue.EventQueue.new.Symbol.name)
«event_queue::EventQueue::new» = everywhere.«event_queue::EventQueue::new» (tie_t (in_world program)) (in_program (in_world program) event_queue.EventQueue.new.Symbol.code has-event_queue-EventQueue-new)

pub «event_queue::EventQueue::push» : Returns event_queue'.EventQueue.push.signature (λ 𝓤. event_queue'.EventQueue.push.spec) (tie_t (in_world program) event_queue.EventQueue.push.Symbol.name)
«event_queue::EventQueue::push» = everywhere.«event_queue::EventQueue::push» (tie_t (in_world program)) (in_program (in_world program) event_queue.EventQueue.push.Symbol.code has-event_queue-EventQueue-push)

pub «event_queue::EventQueue::pop» : Returns event_queue'.EventQueue.pop.signature (λ 𝓤. event_queue'.EventQueue.pop.spec) (tie_t (in_world program) event_queue.EventQueue.pop.Symbol.name)
«event_queue::EventQueue::pop» = everywhere.«event_queue::EventQueue::pop» (tie_t (in_world program)) (in_program (in_world program) event_queue.EventQueue.pop.Symbol.code has-event_queue-EventQueue-pop)

pub «event_queue::U8FromPhyKind::from» : Returns event_queue'.U8FromPhyKind.from.signature (λ 𝓤. event_queue'.U8FromPhyKind.from.spec) (tie_t (in_world program) event_queue.U8FromPhyKind.from.Symbol.name)
«event_queue::U8FromPhyKind::from» = everywhere.«event_queue::U8FromPhyKind::from» (tie_t (in_world program)) (in_program (in_world program) event_queue.U8FromPhyKind.from.Symbol.code has-event_queue-U8FromPhyKind-from)

pub «turn::next_waiting» : Returns turn'.next_waiting.signature (λ 𝓤. turn'.next_waiting.spec) (tie_t (in_world program) turn.next_waiting.Symbol.name)
«turn::next_waiting» = everywhere.«turn::next_waiting» (tie_t (in_world program)) (in_program (in_world program) turn.next_waiting.Symbol.code has-turn-next_waiting)

pub «turn::with_wait» : Returns turn'.with_wait.signature (λ 𝓤. turn'.with_wait.spec) (tie_t (in_world program) turn.with_wait.Symbol.name)
«turn::with_wait» = everywhere.«turn::with_wait» (tie_t (in_world program)) (in_program (in_world program) turn.with_wait.Symbol.code has-turn-with_wait)

pub «turn::without_wait» : Returns turn'.without_wait.signature (λ 𝓤. turn'.without_wait.spec) (tie_t (in_world program) turn.without_wait.Symbol.name)
«turn::without_wait» = everywhere.«turn::without_wait» (tie_t (in_world program)) (in_program (in_world program) turn.without_wait.Symbol.code has-turn-without_wait)

pub «pool::may_draw» : Returns pool'.may_draw.signature (λ 𝓤. pool'.may_draw.spec) (tie_t (in_world program) pool.may_draw.Symbol.name)
«pool::may_draw» = everywhere.«pool::may_draw» (tie_t (in_world program)) (in_program (in_world program) pool.may_draw.Symbol.code has-pool-may_draw)

pub «pool::shared» : Returns pool'.shared.signature (λ 𝓤. pool'.shared.spec) (tie_t (in_world program) pool.shared.Symbol.name)
«pool::shared» = everywhere.«pool::shared» (tie_t (in_world program)) (in_program (in_world program) pool.shared.Symbol.code has-pool-shared)

pub «pool::fits_slots» : Returns pool'.fits_slots.signature (λ 𝓤. pool'.fits_slots.spec) (tie_t (in_world program) pool.fits_slots.Symbol.name)
«pool::fits_slots» = everywhere.«pool::fits_slots» (tie_t (in_world program)) (in_program (in_world program) pool.fits_slots.Symbol.code has-pool-fits_slots)

pub «slot::ConnectionStorage::new» : Returns slot'.ConnectionStorage.new.signature (λ 𝓤. slot'.ConnectionStorage.new.spec) (tie_t (in_world program) slot.ConnectionStorage.new.Symbol.name)
«slot::ConnectionStorage::new» = everywhere.«slot::ConnectionStorage::new» (tie_t (in_world program)) (in_program (in_world program) slot.ConnectionStorage.new.Symbol.code has-slot-ConnectionStorage-new)

pub «slot::ConnectionStorage::with_state» : Returns slot'.ConnectionStorage.with_state.signature (λ 𝓤. slot'.ConnectionStorage.with_state.spec) (tie_t (in_world program) slot.ConnectionStorage.with_state.Symbol.name)
«slot::ConnectionStorage::with_state» = everywhere.«slot::ConnectionStorage::with_state» (tie_t (in_world program)) (in_program (in_world program) slot.ConnectionStorage.with_state.Symbol.code has-slot-ConnectionStorage-with_state)

pub «slot::ConnectionStorage::with_subrating_params» : Returns slot'.ConnectionStorage.with_subrating_params.signature (λ 𝓤. slot'.ConnectionStorage.with_subrating_params.spec) (tie_t (in_world program) slot.ConnectionStorage.with_subrating_params.Symbol.name)
«slot::ConnectionStorage::with_subrating_params» = everywhere.«slot::ConnectionStorage::with_subrating_params» (tie_t (in_world program)) (in_program (in_world program) slot.ConnectionStorage.with_subrating_params.Symbol.code has-slot-ConnectionStorage-with_subrating_params)

pub «slot::U8FromLeConnRole::from» : Returns slot'.U8FromLeConnRole.from.signature (λ 𝓤. slot'.U8FromLeConnRole.from.spec) (tie_t (in_world program) slot.U8FromLeConnRole.from.Symbol.name)
«slot::U8FromLeConnRole::from» = everywhere.«slot::U8FromLeConnRole::from» (tie_t (in_world program)) (in_program (in_world program) slot.U8FromLeConnRole.from.Symbol.code has-slot-U8FromLeConnRole-from)

pub «slot::LeConnRolePartialEq::eq» : Returns slot'.LeConnRolePartialEq.eq.signature (λ 𝓤. slot'.LeConnRolePartialEq.eq.spec) (tie_t (in_world program) slot.LeConnRolePartialEq.eq.Symbol.name)
«slot::LeConnRolePartialEq::eq» = everywhere.«slot::LeConnRolePartialEq::eq» (tie_t (in_world program)) (in_program (in_world program) slot.LeConnRolePartialEq.eq.Symbol.code has-slot-LeConnRolePartialEq-eq)

pub «rule::same_address» : Returns rule'.same_address.signature (λ 𝓤. rule'.same_address.spec) (tie_t (in_world program) rule.same_address.Symbol.name)
«rule::same_address» = everywhere.«rule::same_address» (tie_t (in_world program)) (in_program (in_world program) rule.same_address.Symbol.code has-rule-same_address)

pub «rule::fits» : Returns rule'.fits.signature (λ 𝓤. rule'.fits.spec) (tie_t (in_world program) rule.fits.Symbol.name)
«rule::fits» = everywhere.«rule::fits» (tie_t (in_world program)) (in_program (in_world program) rule.fits.Symbol.code has-rule-fits)

pub «search::begin» : Returns search'.begin.signature (λ 𝓤. search'.begin.spec) (tie_t (in_world program) search.begin.Symbol.name)
«search::begin» = everywhere.«search::begin» (tie_t (in_world program)) (in_program (in_world program) search.begin.Symbol.code has-search-begin)

pub «search::see» : Returns search'.see.signature (λ 𝓤. search'.see.spec) (tie_t (in_world program) search.see.Symbol.name)
«search::see» = everywhere.«search::see» (tie_t (in_world program)) (in_program (in_world program) search.see.Symbol.code has-search-see)

pub «search::end» : Returns search'.end.signature (λ 𝓤. search'.end.spec) (tie_t (in_world program) search.end.Symbol.name)
«search::end» = everywhere.«search::end» (tie_t (in_world program)) (in_program (in_world program) search.end.Symbol.code has-search-end)

pub «search::find» : Returns search'.find.signature (λ 𝓤. search'.find.spec) (tie_t (in_world program) search.find.Symbol.name)
«search::find» = everywhere.«search::find» (tie_t (in_world program)) (in_program (in_world program) search.find.Symbol.code has-search-find)

pub «search::locate» : Returns search'.locate.signature (λ 𝓤. search'.locate.spec) (tie_t (in_world program) search.locate.Symbol.name)
«search::locate» = everywhere.«search::locate» (tie_t (in_world program)) (in_program (in_world program) search.locate.Symbol.code has-search-locate)

pub «search::is_well_formed» : Returns search'.is_well_formed.signature (λ 𝓤. search'.is_well_formed.spec) (tie_t (in_world program) search.is_well_formed.Symbol.name)
«search::is_well_formed» = everywhere.«search::is_well_formed» (tie_t (in_world program)) (in_program (in_world program) search.is_well_formed.Symbol.code has-search-is_well_formed)

pub «table::put_shared» : Returns table'.put_shared.signature (λ 𝓤. table'.put_shared.spec) (tie_t (in_world program) table.put_shared.Symbol.name)
«table::put_shared» = everywhere.«table::put_shared» (tie_t (in_world program)) (in_program (in_world program) table.put_shared.Symbol.code has-table-put_shared)

pub «table::new» : Returns table'.new.signature (λ 𝓤. table'.new.spec) (tie_t (in_world program) table.new.Symbol.name)
«table::new» = everywhere.«table::new» (tie_t (in_world program)) (in_program (in_world program) table.new.Symbol.code has-table-new)

pub «slot_call::view» : Returns slot_call'.view.signature (λ 𝓤. slot_call'.view.spec) (tie_t (in_world program) slot_call.view.Symbol.name)
«slot_call::view» = everywhere.«slot_call::view» (tie_t (in_world program)) (in_program (in_world program) slot_call.view.Symbol.code has-slot_call-view)

pub «inc_ref::inc_ref» : Returns inc_ref'.inc_ref.signature (λ 𝓤. inc_ref'.inc_ref.spec) (tie_t (in_world program) inc_ref.inc_ref.Symbol.name)
«inc_ref::inc_ref» = everywhere.«inc_ref::inc_ref» (tie_t (in_world program)) (in_program (in_world program) inc_ref.inc_ref.Symbol.code has-inc_ref-inc_ref)

pub «inc_ref::IncRefCallSlotCall::rule» : Returns inc_ref'.IncRefCallSlotCall.rule.signature (λ 𝓤. inc_ref'.IncRefCallSlotCall.rule.spec) (tie_t (in_world program) inc_ref.IncRefCallSlotCall.rule.Symbol.name)
«inc_ref::IncRefCallSlotCall::rule» = everywhere.«inc_ref::IncRefCallSlotCall::rule» (tie_t (in_world program)) (in_program (in_world program) inc_ref.IncRefCallSlotCall.rule.Symbol.code has-inc_ref-IncRefCallSlotCall-rule)

pub «inc_ref::IncRefCallSlotCall::absent» : Returns inc_ref'.IncRefCallSlotCall.absent.signature (λ 𝓤. inc_ref'.IncRefCallSlotCall.absent.spec) (tie_t (in_world program) inc_ref.IncRefCallSlotCall.absent.Symbol.name)
«inc_ref::IncRefCallSlotCall::absent» = everywhere.«inc_ref::IncRefCallSlotCall::absent» (tie_t (in_world program)) (in_program (in_world program) inc_ref.IncRefCallSlotCall.absent.Symbol.code has-inc_ref-IncRefCallSlotCall-absent)

pub «inc_ref::IncRefCallSlotCall::at» : Returns inc_ref'.IncRefCallSlotCall.at.signature (λ 𝓤. inc_ref'.IncRefCallSlotCall.at.spec) (tie_t (in_world program) inc_ref.IncRefCallSlotCall.at.Symbol.name)
«inc_ref::IncRefCallSlotCall::at» = everywhere.«inc_ref::IncRefCallSlotCall::at» (tie_t (in_world program)) (in_program (in_world program) inc_ref.IncRefCallSlotCall.at.Symbol.code has-inc_ref-IncRefCallSlotCall-at)

pub «dec_ref::dec_ref» : Returns dec_ref'.dec_ref.signature (λ 𝓤. dec_ref'.dec_ref.spec) (tie_t (in_world program) dec_ref.dec_ref.Symbol.name)
«dec_ref::dec_ref» = everywhere.«dec_ref::dec_ref» (tie_t (in_world program)) (in_program (in_world program) dec_ref.dec_ref.Symbol.code has-dec_ref-dec_ref)

pub «dec_ref::DecRefCallSlotCall::rule» : Returns dec_ref'.DecRefCallSlotCall.rule.signature (λ 𝓤. dec_ref'.DecRefCallSlotCall.rule.spec) (tie_t (in_world program) dec_ref.DecRefCallSlotCall.rule.Symbol.name)
«dec_ref::DecRefCallSlotCall::rule» = everywhere.«dec_ref::DecRefCallSlotCall::rule» (tie_t (in_world program)) (in_program (in_world program) dec_ref.DecRefCallSlotCall.rule.Symbol.code has-dec_ref-DecRefCallSlotCall-rule)

pub «dec_ref::DecRefCallSlotCall::absent» : Returns dec_ref'.DecRefCallSlotCall.absent.signature (λ 𝓤. dec_ref'.DecRefCallSlotCall.absent.spec) (tie_t (in_world program) dec_ref.DecRefCallSlotCall.absent.Symbol.name)
«dec_ref::DecRefCallSlotCall::absent» = everywhere.«dec_ref::DecRefCallSlotCall::absent» (tie_t (in_world program)) (in_program (in_world program) dec_ref.DecRefCallSlotCall.absent.Symbol.code has-dec_ref-DecRefCallSlotCall-absent)

pub «dec_ref::DecRefCallSlotCall::at» : Returns dec_ref'.DecRefCallSlotCall.at.signature (λ 𝓤. dec_ref'.DecRefCallSlotCall.at.spec) (tie_t (in_world program) dec_ref.DecRefCallSlotCall.at.Symbol.name)
«dec_ref::DecRefCallSlotCall::at» = everywhere.«dec_ref::DecRefCallSlotCall::at» (tie_t (in_world program)) (in_program (in_world program) dec_ref.DecRefCallSlotCall.at.Symbol.code has-dec_ref-DecRefCallSlotCall-at)

pub «connect::connect» : Returns connect'.connect.signature (λ 𝓤. connect'.connect.spec) (tie_t (in_world program) connect.connect.Symbol.name)
«connect::connect» = everywhere.«connect::connect» (tie_t (in_world program)) (in_program (in_world program) connect.connect.Symbol.code has-connect-connect)

pub «connect::ConnectCallSlotCall::rule» : Returns connect'.ConnectCallSlotCall.rule.signature (λ 𝓤. connect'.ConnectCallSlotCall.rule.spec) (tie_t (in_world program) connect.ConnectCallSlotCall.rule.Symbol.name)
«connect::ConnectCallSlotCall::rule» = everywhere.«connect::ConnectCallSlotCall::rule» (tie_t (in_world program)) (in_program (in_world program) connect.ConnectCallSlotCall.rule.Symbol.code has-connect-ConnectCallSlotCall-rule)

pub «connect::ConnectCallSlotCall::absent» : Returns connect'.ConnectCallSlotCall.absent.signature (λ 𝓤. connect'.ConnectCallSlotCall.absent.spec) (tie_t (in_world program) connect.ConnectCallSlotCall.absent.Symbol.name)
«connect::ConnectCallSlotCall::absent» = everywhere.«connect::ConnectCallSlotCall::absent» (tie_t (in_world program)) (in_program (in_world program) connect.ConnectCallSlotCall.absent.Symbol.code has-connect-ConnectCallSlotCall-absent)

pub «connect::ConnectCallSlotCall::at» : Returns connect'.ConnectCallSlotCall.at.signature (λ 𝓤. connect'.ConnectCallSlotCall.at.spec) (tie_t (in_world program) connect.ConnectCallSlotCall.at.Symbol.name)
«connect::ConnectCallSlotCall::at» = everywhere.«connect::ConnectCallSlotCall::at» (tie_t (in_world program)) (in_program (in_world program) connect.ConnectCallSlotCall.at.Symbol.code has-connect-ConnectCallSlotCall-at)

pub «lookup::get_connected_handle» : Returns lookup'.get_connected_handle.signature (λ 𝓤. lookup'.get_connected_handle.spec) (tie_t (in_world program) lookup.get_connected_handle.Symbol.name)
«lookup::get_connected_handle» = everywhere.«lookup::get_connected_handle» (tie_t (in_world program)) (in_program (in_world program) lookup.get_connected_handle.Symbol.code has-lookup-get_connected_handle)

pub «lookup::get_connection_by_peer_address» : Returns lookup'.get_connection_by_peer_address.signature (λ 𝓤. lookup'.get_connection_by_peer_address.spec) (tie_t (in_world program) lookup.get_connection_by_peer_address.Symbol.name)
«lookup::get_connection_by_peer_address» = everywhere.«lookup::get_connection_by_peer_address» (tie_t (in_world program)) (in_program (in_world program) lookup.get_connection_by_peer_address.Symbol.code has-lookup-get_connection_by_peer_address)

pub «lookup::GetConnectedHandleCallSlotCall::rule» : Returns lookup'.GetConnectedHandleCallSlotCall.rule.signature (λ 𝓤. lookup'.GetConnectedHandleCallSlotCall.rule.spec) (tie_t (in_world program) lookup.GetConnectedHandleCallSlotCall.rule.Symbol.name)
«lookup::GetConnectedHandleCallSlotCall::rule» = everywhere.«lookup::GetConnectedHandleCallSlotCall::rule» (tie_t (in_world program)) (in_program (in_world program) lookup.GetConnectedHandleCallSlotCall.rule.Symbol.code has-lookup-GetConnectedHandleCallSlotCall-rule)

pub «lookup::GetConnectedHandleCallSlotCall::absent» : Returns lookup'.GetConnectedHandleCallSlotCall.absent.signature (λ 𝓤. lookup'.GetConnectedHandleCallSlotCall.absent.spec) (tie_t (in_world program) lookup.GetConnectedHandleCallSlotCall.absent.Symbol.name)
«lookup::GetConnectedHandleCallSlotCall::absent» = everywhere.«lookup::GetConnectedHandleCallSlotCall::absent» (tie_t (in_world program)) (in_program (in_world program) lookup.GetConnectedHandleCallSlotCall.absent.Symbol.code has-lookup-GetConnectedHandleCallSlotCall-absent)

pub «lookup::GetConnectedHandleCallSlotCall::at» : Returns lookup'.GetConnectedHandleCallSlotCall.at.signature (λ 𝓤. lookup'.GetConnectedHandleCallSlotCall.at.spec) (tie_t (in_world program) lookup.GetConnectedHandleCallSlotCall.at.Symbol.name)
«lookup::GetConnectedHandleCallSlotCall::at» = everywhere.«lookup::GetConnectedHandleCallSlotCall::at» (tie_t (in_world program)) (in_program (in_world program) lookup.GetConnectedHandleCallSlotCall.at.Symbol.code has-lookup-GetConnectedHandleCallSlotCall-at)

pub «lookup::GetConnectionByPeerAddressCallSlotCall::rule» : Returns lookup'.GetConnectionByPeerAddressCallSlotCall.rule.signature (λ 𝓤. lookup'.GetConnectionByPeerAddressCallSlotCall.rule.spec) (tie_t (in_world program) lookup.GetConnectionByPeerAddressCallSlotCall.rule.Symbol.name)
«lookup::GetConnectionByPeerAddressCallSlotCall::rule» = everywhere.«lookup::GetConnectionByPeerAddressCallSlotCall::rule» (tie_t (in_world program)) (in_program (in_world program) lookup.GetConnectionByPeerAddressCallSlotCall.rule.Symbol.code has-lookup-GetConnectionByPeerAddressCallSlotCall-rule)

pub «lookup::GetConnectionByPeerAddressCallSlotCall::absent» : Returns lookup'.GetConnectionByPeerAddressCallSlotCall.absent.signature (λ 𝓤. lookup'.GetConnectionByPeerAddressCallSlotCall.absent.spec) (tie_t (in_world program) lookup.GetConnectionByPeerAddressCallSlotCall.absent.Symbol.name)
«lookup::GetConnectionByPeerAddressCallSlotCall::absent» = everywhere.«lookup::GetConnectionByPeerAddressCallSlotCall::absent» (tie_t (in_world program)) (in_program (in_world program) lookup.GetConnectionByPeerAddressCallSlotCall.absent.Symbol.code has-lookup-GetConnectionByPeerAddressCallSlotCall-absent)

pub «lookup::GetConnectionByPeerAddressCallSlotCall::at» : Returns lookup'.GetConnectionByPeerAddressCallSlotCall.at.signature (λ 𝓤. lookup'.GetConnectionByPeerAddressCallSlotCall.at.spec) (tie_t (in_world program) lookup.GetConnectionByPeerAddressCallSlotCall.at.Symbol.name)
«lookup::GetConnectionByPeerAddressCallSlotCall::at» = everywhere.«lookup::GetConnectionByPeerAddressCallSlotCall::at» (tie_t (in_world program)) (in_program (in_world program) lookup.GetConnectionByPeerAddressCallSlotCall.at.Symbol.code has-lookup-GetConnectionByPeerAddressCallSlotCall-at)

pub «accept::poll_accept_any» : Returns accept'.poll_accept_any.signature (λ 𝓤. accept'.poll_accept_any.spec) (tie_t (in_world program) accept.poll_accept_any.Symbol.name)
«accept::poll_accept_any» = everywhere.«accept::poll_accept_any» (tie_t (in_world program)) (in_program (in_world program) accept.poll_accept_any.Symbol.code has-accept-poll_accept_any)

pub «accept::accept_at» : Returns accept'.accept_at.signature (λ 𝓤. accept'.accept_at.spec) (tie_t (in_world program) accept.accept_at.Symbol.name)
«accept::accept_at» = everywhere.«accept::accept_at» (tie_t (in_world program)) (in_program (in_world program) accept.accept_at.Symbol.code has-accept-accept_at)

pub «accept::poll_accept» : Returns accept'.poll_accept.signature (λ 𝓤. accept'.poll_accept.spec) (tie_t (in_world program) accept.poll_accept.Symbol.name)
«accept::poll_accept» = everywhere.«accept::poll_accept» (tie_t (in_world program)) (in_program (in_world program) accept.poll_accept.Symbol.code has-accept-poll_accept)

pub «accept::poll_accept_listed» : Returns accept'.poll_accept_listed.signature (λ 𝓤. accept'.poll_accept_listed.spec) (tie_t (in_world program) accept.poll_accept_listed.Symbol.name)
«accept::poll_accept_listed» = everywhere.«accept::poll_accept_listed» (tie_t (in_world program)) (in_program (in_world program) accept.poll_accept_listed.Symbol.code has-accept-poll_accept_listed)

pub «accept::PollAcceptAnyCallSlotCall::rule» : Returns accept'.PollAcceptAnyCallSlotCall.rule.signature (λ 𝓤. accept'.PollAcceptAnyCallSlotCall.rule.spec) (tie_t (in_world program) accept.PollAcceptAnyCallSlotCall.rule.Symbol.name)
«accept::PollAcceptAnyCallSlotCall::rule» = everywhere.«accept::PollAcceptAnyCallSlotCall::rule» (tie_t (in_world program)) (in_program (in_world program) accept.PollAcceptAnyCallSlotCall.rule.Symbol.code has-accept-PollAcceptAnyCallSlotCall-rule)

pub «accept::PollAcceptAnyCallSlotCall::absent» : Returns accept'.PollAcceptAnyCallSlotCall.absent.signature (λ 𝓤. accept'.PollAcceptAnyCallSlotCall.absent.spec) (tie_t (in_world program) accept.PollAcceptAnyCallSlotCall.absent.Symbol.name)
«accept::PollAcceptAnyCallSlotCall::absent» = everywhere.«accept::PollAcceptAnyCallSlotCall::absent» (tie_t (in_world program)) (in_program (in_world program) accept.PollAcceptAnyCallSlotCall.absent.Symbol.code has-accept-PollAcceptAnyCallSlotCall-absent)

pub «accept::PollAcceptAnyCallSlotCall::at» : Returns accept'.PollAcceptAnyCallSlotCall.at.signature (λ 𝓤. accept'.PollAcceptAnyCallSlotCall.at.spec) (tie_t (in_world program) accept.PollAcceptAnyCallSlotCall.at.Symbol.name)
«accept::PollAcceptAnyCallSlotCall::at» = everywhere.«accept::PollAcceptAnyCallSlotCall::at» (tie_t (in_world program)) (in_program (in_world program) accept.PollAcceptAnyCallSlotCall.at.Symbol.code has-accept-PollAcceptAnyCallSlotCall-at)

pub «accept::ListedPeerSet::contains» : Returns accept'.ListedPeerSet.contains.signature (λ 𝓤. accept'.ListedPeerSet.contains.spec) (tie_t (in_world program) accept.ListedPeerSet.contains.Symbol.name)
«accept::ListedPeerSet::contains» = everywhere.«accept::ListedPeerSet::contains» (tie_t (in_world program)) (in_program (in_world program) accept.ListedPeerSet.contains.Symbol.code has-accept-ListedPeerSet-contains)

pub «accept_sixteen::poll_accept_sixteen» : Returns accept_sixteen'.poll_accept_sixteen.signature (λ 𝓤. accept_sixteen'.poll_accept_sixteen.spec) (tie_t (in_world program) accept_sixteen.poll_accept_sixteen.Symbol.name)
«accept_sixteen::poll_accept_sixteen» = everywhere.«accept_sixteen::poll_accept_sixteen» (tie_t (in_world program)) (in_program (in_world program) accept_sixteen.poll_accept_sixteen.Symbol.code has-accept_sixteen-poll_accept_sixteen)

pub «packet_grant::confirm» : Returns packet_grant'.confirm.signature (λ 𝓤. packet_grant'.confirm.spec) (tie_t (in_world program) packet_grant.confirm.Symbol.name)
«packet_grant::confirm» = everywhere.«packet_grant::confirm» (tie_t (in_world program)) (in_program (in_world program) packet_grant.confirm.Symbol.code has-packet_grant-confirm)

pub «packet_grant::confirmed» : Returns packet_grant'.confirmed.signature (λ 𝓤. packet_grant'.confirmed.spec) (tie_t (in_world program) packet_grant.confirmed.Symbol.name)
«packet_grant::confirmed» = everywhere.«packet_grant::confirmed» (tie_t (in_world program)) (in_program (in_world program) packet_grant.confirmed.Symbol.code has-packet_grant-confirmed)

pub «request_disconnect::request_disconnect» : Returns request_disconnect'.request_disconnect.signature (λ 𝓤. request_disconnect'.request_disconnect.spec) (tie_t (in_world program) request_disconnect.request_disconnect.Symbol.name)
«request_disconnect::request_disconnect» = everywhere.«request_disconnect::request_disconnect» (tie_t (in_world program)) (in_program (in_world program) request_disconnect.request_disconnect.Symbol.code has-request_disconnect-request_disconnect)

pub «request_disconnect::request_handle_disconnect» : Returns request_disconnect'.request_handle_disconnect.signature (λ 𝓤. request_disconnect'.request_handle_disconnect.spec) (tie_t (in_world program) request_disconnect.request_handle_disconnect.Symbol.name)
«request_disconnect::request_handle_disconnect» = everywhere.«request_disconnect::request_handle_disconnect» (tie_t (in_world program)) (in_program (in_world program) request_disconnect.request_handle_disconnect.Symbol.code has-request_disconnect-request_handle_disconnect)

pub «request_disconnect::RequestDisconnectCallSlotCall::rule» : Returns request_disconnect'.RequestDisconnectCallSlotCall.rule.signature (λ 𝓤. request_disconnect'.RequestDisconnectCallSlotCall.rule.spec) (tie_t (in_world program) request_disconnect.RequestDisconnectCallSlotCall.rule.Symbol.name)
«request_disconnect::RequestDisconnectCallSlotCall::rule» = everywhere.«request_disconnect::RequestDisconnectCallSlotCall::rule» (tie_t (in_world program)) (in_program (in_world program) request_disconnect.RequestDisconnectCallSlotCall.rule.Symbol.code has-request_disconnect-RequestDisconnectCallSlotCall-rule)

pub «request_disconnect::RequestDisconnectCallSlotCall::absent» : Returns request_disconnect'.RequestDisconnectCallSlotCall.absent.signature (λ 𝓤. request_disconnect'.RequestDisconnectCallSlotCall.absent.spec) (tie_t (in_world program) request_disconnect.RequestDisconnectCallSlotCall.absent.Symbol.name)
«request_disconnect::RequestDisconnectCallSlotCall::absent» = everywhere.«request_disconnect::RequestDisconnectCallSlotCall::absent» (tie_t (in_world program)) (in_program (in_world program) request_disconnect.RequestDisconnectCallSlotCall.absent.Symbol.code has-request_disconnect-RequestDisconnectCallSlotCall-absent)

pub «request_disconnect::RequestDisconnectCallSlotCall::at» : Returns request_disconnect'.RequestDisconnectCallSlotCall.at.signature (λ 𝓤. request_disconnect'.RequestDisconnectCallSlotCall.at.spec) (tie_t (in_world program) request_disconnect.RequestDisconnectCallSlotCall.at.Symbol.name)
«request_disconnect::RequestDisconnectCallSlotCall::at» = everywhere.«request_disconnect::RequestDisconnectCallSlotCall::at» (tie_t (in_world program)) (in_program (in_world program) request_disconnect.RequestDisconnectCallSlotCall.at.Symbol.code has-request_disconnect-RequestDisconnectCallSlotCall-at)

pub «request_disconnect::RequestHandleDisconnectCallSlotCall::rule» : Returns request_disconnect'.RequestHandleDisconnectCallSlotCall.rule.signature (λ 𝓤. request_disconnect'.RequestHandleDisconnectCallSlotCall.rule.spec) (tie_t (in_world program) request_disconnect.RequestHandleDisconnectCallSlotCall.rule.Symbol.name)
«request_disconnect::RequestHandleDisconnectCallSlotCall::rule» = everywhere.«request_disconnect::RequestHandleDisconnectCallSlotCall::rule» (tie_t (in_world program)) (in_program (in_world program) request_disconnect.RequestHandleDisconnectCallSlotCall.rule.Symbol.code has-request_disconnect-RequestHandleDisconnectCallSlotCall-rule)

pub «request_disconnect::RequestHandleDisconnectCallSlotCall::absent» : Returns request_disconnect'.RequestHandleDisconnectCallSlotCall.absent.signature (λ 𝓤. request_disconnect'.RequestHandleDisconnectCallSlotCall.absent.spec) (tie_t (in_world program) request_disconnect.RequestHandleDisconnectCallSlotCall.absent.Symbol.name)
«request_disconnect::RequestHandleDisconnectCallSlotCall::absent» = everywhere.«request_disconnect::RequestHandleDisconnectCallSlotCall::absent» (tie_t (in_world program)) (in_program (in_world program) request_disconnect.RequestHandleDisconnectCallSlotCall.absent.Symbol.code has-request_disconnect-RequestHandleDisconnectCallSlotCall-absent)

pub «request_disconnect::RequestHandleDisconnectCallSlotCall::at» : Returns request_disconnect'.RequestHandleDisconnectCallSlotCall.at.signature (λ 𝓤. request_disconnect'.RequestHandleDisconnectCallSlotCall.at.spec) (tie_t (in_world program) request_disconnect.RequestHandleDisconnectCallSlotCall.at.Symbol.name)
«request_disconnect::RequestHandleDisconnectCallSlotCall::at» = everywhere.«request_disconnect::RequestHandleDisconnectCallSlotCall::at» (tie_t (in_world program)) (in_program (in_world program) request_disconnect.RequestHandleDisconnectCallSlotCall.at.Symbol.code has-request_disconnect-RequestHandleDisconnectCallSlotCall-at)

pub «poll_disconnecting::poll_disconnecting» : Returns poll_disconnecting'.poll_disconnecting.signature (λ 𝓤. poll_disconnecting'.poll_disconnecting.spec) (tie_t (in_world program) poll_disconnecting.poll_disconnecting.Symbol.name)
«poll_disconnecting::poll_disconnecting» = everywhere.«poll_disconnecting::poll_disconnecting» (tie_t (in_world program)) (in_program (in_world program) poll_disconnecting.poll_disconnecting.Symbol.code has-poll_disconnecting-poll_disconnecting)

pub «poll_disconnecting::PollDisconnectingCallSlotCall::rule» : Returns poll_disconnecting'.PollDisconnectingCallSlotCall.rule.signature (λ 𝓤. poll_disconnecting'.PollDisconnectingCallSlotCall.rule.spec) (tie_t (in_world program) poll_disconnecting.PollDisconnectingCallSlotCall.rule.Symbol.name)
«poll_disconnecting::PollDisconnectingCallSlotCall::rule» = everywhere.«poll_disconnecting::PollDisconnectingCallSlotCall::rule» (tie_t (in_world program)) (in_program (in_world program) poll_disconnecting.PollDisconnectingCallSlotCall.rule.Symbol.code has-poll_disconnecting-PollDisconnectingCallSlotCall-rule)

pub «poll_disconnecting::PollDisconnectingCallSlotCall::absent» : Returns poll_disconnecting'.PollDisconnectingCallSlotCall.absent.signature (λ 𝓤. poll_disconnecting'.PollDisconnectingCallSlotCall.absent.spec) (tie_t (in_world program) poll_disconnecting.PollDisconnectingCallSlotCall.absent.Symbol.name)
«poll_disconnecting::PollDisconnectingCallSlotCall::absent» = everywhere.«poll_disconnecting::PollDisconnectingCallSlotCall::absent» (tie_t (in_world program)) (in_program (in_world program) poll_disconnecting.PollDisconnectingCallSlotCall.absent.Symbol.code has-poll_disconnecting-PollDisconnectingCallSlotCall-absent)

pub «poll_disconnecting::PollDisconnectingCallSlotCall::at» : Returns poll_disconnecting'.PollDisconnectingCallSlotCall.at.signature (λ 𝓤. poll_disconnecting'.PollDisconnectingCallSlotCall.at.spec) (tie_t (in_world program) poll_disconnecting.PollDisconnectingCallSlotCall.at.Symbol.name)
«poll_disconnecting::PollDisconnectingCallSlotCall::at» = everywhere.«poll_disconnecting::PollDisconnectingCallSlotCall::at» (tie_t (in_world program)) (in_program (in_world program) poll_disconnecting.PollDisconnectingCallSlotCall.at.Symbol.code has-poll_disconnecting-PollDisconnectingCallSlotCall-at)

pub «withdraw_disconnect::withdraw_disconnect» : Returns withdraw_disconnect'.withdraw_disconnect.signature (λ 𝓤. withdraw_disconnect'.withdraw_disconnect.spec) (tie_t (in_world program) withdraw_disconnect.withdraw_disconnect.Symbol.name)
«withdraw_disconnect::withdraw_disconnect» = everywhere.«withdraw_disconnect::withdraw_disconnect» (tie_t (in_world program)) (in_program (in_world program) withdraw_disconnect.withdraw_disconnect.Symbol.code has-withdraw_disconnect-withdraw_disconnect)

pub «withdraw_disconnect::WithdrawDisconnectCallSlotCall::rule» : Returns withdraw_disconnect'.WithdrawDisconnectCallSlotCall.rule.signature (λ 𝓤. withdraw_disconnect'.WithdrawDisconnectCallSlotCall.rule.spec) (tie_t (in_world program) withdraw_disconnect.WithdrawDisconnectCallSlotCall.rule.Symbol.name)
«withdraw_disconnect::WithdrawDisconnectCallSlotCall::rule» = everywhere.«withdraw_disconnect::WithdrawDisconnectCallSlotCall::rule» (tie_t (in_world program)) (in_program (in_world program) withdraw_disconnect.WithdrawDisconnectCallSlotCall.rule.Symbol.code has-withdraw_disconnect-WithdrawDisconnectCallSlotCall-rule)

pub «withdraw_disconnect::WithdrawDisconnectCallSlotCall::absent» : Returns withdraw_disconnect'.WithdrawDisconnectCallSlotCall.absent.signature (λ 𝓤. withdraw_disconnect'.WithdrawDisconnectCallSlotCall.absent.spec) (tie_t (in_world program) withdraw_disconnect.WithdrawDisconnectCallSlotCall.absent.Symbol.name)
«withdraw_disconnect::WithdrawDisconnectCallSlotCall::absent» = everywhere.«withdraw_disconnect::WithdrawDisconnectCallSlotCall::absent» (tie_t (in_world program)) (in_program (in_world program) withdraw_disconnect.WithdrawDisconnectCallSlotCall.absent.Symbol.code has-withdraw_disconnect-WithdrawDisconnectCallSlotCall-absent)

pub «withdraw_disconnect::WithdrawDisconnectCallSlotCall::at» : Returns withdraw_disconnect'.WithdrawDisconnectCallSlotCall.at.signature (λ 𝓤. withdraw_disconnect'.WithdrawDisconnectCallSlotCall.at.spec) (tie_t (in_world program) withdraw_disconnect.WithdrawDisconnectCallSlotCall.at.Symbol.name)
«withdraw_disconnect::WithdrawDisconnectCallSlotCall::at» = everywhere.«withdraw_disconnect::WithdrawDisconnectCallSlotCall::at» (tie_t (in_world program)) (in_program (in_world program) withdraw_disconnect.WithdrawDisconnectCallSlotCall.at.Symbol.code has-withdraw_disconnect-WithdrawDisconnectCallSlotCall-at)

pub «confirm::confirm» : Returns confirm'.confirm.signature (λ 𝓤. confirm'.confirm.spec) (tie_t (in_world program) confirm.confirm.Symbol.name)
«confirm::confirm» = everywhere.«confirm::confirm» (tie_t (in_world program)) (in_program (in_world program) confirm.confirm.Symbol.code has-confirm-confirm)

pub «confirm::ConfirmCallSlotCall::rule» : Returns confirm'.ConfirmCallSlotCall.rule.signature (λ 𝓤. confirm'.ConfirmCallSlotCall.rule.spec) (tie_t (in_world program) confirm.ConfirmCallSlotCall.rule.Symbol.name)
«confirm::ConfirmCallSlotCall::rule» = everywhere.«confirm::ConfirmCallSlotCall::rule» (tie_t (in_world program)) (in_program (in_world program) confirm.ConfirmCallSlotCall.rule.Symbol.code has-confirm-ConfirmCallSlotCall-rule)

pub «confirm::ConfirmCallSlotCall::absent» : Returns confirm'.ConfirmCallSlotCall.absent.signature (λ 𝓤. confirm'.ConfirmCallSlotCall.absent.spec) (tie_t (in_world program) confirm.ConfirmCallSlotCall.absent.Symbol.name)
«confirm::ConfirmCallSlotCall::absent» = everywhere.«confirm::ConfirmCallSlotCall::absent» (tie_t (in_world program)) (in_program (in_world program) confirm.ConfirmCallSlotCall.absent.Symbol.code has-confirm-ConfirmCallSlotCall-absent)

pub «confirm::ConfirmCallSlotCall::at» : Returns confirm'.ConfirmCallSlotCall.at.signature (λ 𝓤. confirm'.ConfirmCallSlotCall.at.spec) (tie_t (in_world program) confirm.ConfirmCallSlotCall.at.Symbol.name)
«confirm::ConfirmCallSlotCall::at» = everywhere.«confirm::ConfirmCallSlotCall::at» (tie_t (in_world program)) (in_program (in_world program) confirm.ConfirmCallSlotCall.at.Symbol.code has-confirm-ConfirmCallSlotCall-at)

pub «disconnected::disconnected» : Returns disconnected'.disconnected.signature (λ 𝓤. disconnected'.disconnected.spec) (tie_t (in_world program) disconnected.disconnected.Symbol.name)
«disconnected::disconnected» = everywhere.«disconnected::disconnected» (tie_t (in_world program)) (in_program (in_world program) disconnected.disconnected.Symbol.code has-disconnected-disconnected)

pub «disconnected::DisconnectedCallSlotCall::rule» : Returns disconnected'.DisconnectedCallSlotCall.rule.signature (λ 𝓤. disconnected'.DisconnectedCallSlotCall.rule.spec) (tie_t (in_world program) disconnected.DisconnectedCallSlotCall.rule.Symbol.name)
«disconnected::DisconnectedCallSlotCall::rule» = everywhere.«disconnected::DisconnectedCallSlotCall::rule» (tie_t (in_world program)) (in_program (in_world program) disconnected.DisconnectedCallSlotCall.rule.Symbol.code has-disconnected-DisconnectedCallSlotCall-rule)

pub «disconnected::DisconnectedCallSlotCall::absent» : Returns disconnected'.DisconnectedCallSlotCall.absent.signature (λ 𝓤. disconnected'.DisconnectedCallSlotCall.absent.spec) (tie_t (in_world program) disconnected.DisconnectedCallSlotCall.absent.Symbol.name)
«disconnected::DisconnectedCallSlotCall::absent» = everywhere.«disconnected::DisconnectedCallSlotCall::absent» (tie_t (in_world program)) (in_program (in_world program) disconnected.DisconnectedCallSlotCall.absent.Symbol.code has-disconnected-DisconnectedCallSlotCall-absent)

pub «disconnected::DisconnectedCallSlotCall::at» : Returns disconnected'.DisconnectedCallSlotCall.at.signature (λ 𝓤. disconnected'.DisconnectedCallSlotCall.at.spec) (tie_t (in_world program) disconnected.DisconnectedCallSlotCall.at.Symbol.name)
«disconnected::DisconnectedCallSlotCall::at» = everywhere.«disconnected::DisconnectedCallSlotCall::at» (tie_t (in_world program)) (in_program (in_world program) disconnected.DisconnectedCallSlotCall.at.Symbol.code has-disconnected-DisconnectedCallSlotCall-at)

pub «att_mtu::answered» : Returns att_mtu'.answered.signature (λ 𝓤. att_mtu'.answered.spec) (tie_t (in_world program) att_mtu.answered.Symbol.name)
«att_mtu::answered» = everywhere.«att_mtu::answered» (tie_t (in_world program)) (in_program (in_world program) att_mtu.answered.Symbol.code has-att_mtu-answered)

pub «att_mtu::lesser» : Returns att_mtu'.lesser.signature (λ 𝓤. att_mtu'.lesser.spec) (tie_t (in_world program) att_mtu.lesser.Symbol.name)
«att_mtu::lesser» = everywhere.«att_mtu::lesser» (tie_t (in_world program)) (in_program (in_world program) att_mtu.lesser.Symbol.code has-att_mtu-lesser)

pub «att_mtu::exchange_att_mtu» : Returns att_mtu'.exchange_att_mtu.signature (λ 𝓤. att_mtu'.exchange_att_mtu.spec) (tie_t (in_world program) att_mtu.exchange_att_mtu.Symbol.name)
«att_mtu::exchange_att_mtu» = everywhere.«att_mtu::exchange_att_mtu» (tie_t (in_world program)) (in_program (in_world program) att_mtu.exchange_att_mtu.Symbol.code has-att_mtu-exchange_att_mtu)

pub «att_mtu::get_att_mtu_handle» : Returns att_mtu'.get_att_mtu_handle.signature (λ 𝓤. att_mtu'.get_att_mtu_handle.spec) (tie_t (in_world program) att_mtu.get_att_mtu_handle.Symbol.name)
«att_mtu::get_att_mtu_handle» = everywhere.«att_mtu::get_att_mtu_handle» (tie_t (in_world program)) (in_program (in_world program) att_mtu.get_att_mtu_handle.Symbol.code has-att_mtu-get_att_mtu_handle)

pub «att_mtu::ExchangeAttMtuCallSlotCall::rule» : Returns att_mtu'.ExchangeAttMtuCallSlotCall.rule.signature (λ 𝓤. att_mtu'.ExchangeAttMtuCallSlotCall.rule.spec) (tie_t (in_world program) att_mtu.ExchangeAttMtuCallSlotCall.rule.Symbol.name)
«att_mtu::ExchangeAttMtuCallSlotCall::rule» = everywhere.«att_mtu::ExchangeAttMtuCallSlotCall::rule» (tie_t (in_world program)) (in_program (in_world program) att_mtu.ExchangeAttMtuCallSlotCall.rule.Symbol.code has-att_mtu-ExchangeAttMtuCallSlotCall-rule)

pub «att_mtu::ExchangeAttMtuCallSlotCall::absent» : Returns att_mtu'.ExchangeAttMtuCallSlotCall.absent.signature (λ 𝓤. att_mtu'.ExchangeAttMtuCallSlotCall.absent.spec) (tie_t (in_world program) att_mtu.ExchangeAttMtuCallSlotCall.absent.Symbol.name)
«att_mtu::ExchangeAttMtuCallSlotCall::absent» = everywhere.«att_mtu::ExchangeAttMtuCallSlotCall::absent» (tie_t (in_world program)) (in_program (in_world program) att_mtu.ExchangeAttMtuCallSlotCall.absent.Symbol.code has-att_mtu-ExchangeAttMtuCallSlotCall-absent)

pub «att_mtu::ExchangeAttMtuCallSlotCall::at» : Returns att_mtu'.ExchangeAttMtuCallSlotCall.at.signature (λ 𝓤. att_mtu'.ExchangeAttMtuCallSlotCall.at.spec) (tie_t (in_world program) att_mtu.ExchangeAttMtuCallSlotCall.at.Symbol.name)
«att_mtu::ExchangeAttMtuCallSlotCall::at» = everywhere.«att_mtu::ExchangeAttMtuCallSlotCall::at» (tie_t (in_world program)) (in_program (in_world program) att_mtu.ExchangeAttMtuCallSlotCall.at.Symbol.code has-att_mtu-ExchangeAttMtuCallSlotCall-at)

pub «att_mtu::GetAttMtuHandleCallSlotCall::rule» : Returns att_mtu'.GetAttMtuHandleCallSlotCall.rule.signature (λ 𝓤. att_mtu'.GetAttMtuHandleCallSlotCall.rule.spec) (tie_t (in_world program) att_mtu.GetAttMtuHandleCallSlotCall.rule.Symbol.name)
«att_mtu::GetAttMtuHandleCallSlotCall::rule» = everywhere.«att_mtu::GetAttMtuHandleCallSlotCall::rule» (tie_t (in_world program)) (in_program (in_world program) att_mtu.GetAttMtuHandleCallSlotCall.rule.Symbol.code has-att_mtu-GetAttMtuHandleCallSlotCall-rule)

pub «att_mtu::GetAttMtuHandleCallSlotCall::absent» : Returns att_mtu'.GetAttMtuHandleCallSlotCall.absent.signature (λ 𝓤. att_mtu'.GetAttMtuHandleCallSlotCall.absent.spec) (tie_t (in_world program) att_mtu.GetAttMtuHandleCallSlotCall.absent.Symbol.name)
«att_mtu::GetAttMtuHandleCallSlotCall::absent» = everywhere.«att_mtu::GetAttMtuHandleCallSlotCall::absent» (tie_t (in_world program)) (in_program (in_world program) att_mtu.GetAttMtuHandleCallSlotCall.absent.Symbol.code has-att_mtu-GetAttMtuHandleCallSlotCall-absent)

pub «att_mtu::GetAttMtuHandleCallSlotCall::at» : Returns att_mtu'.GetAttMtuHandleCallSlotCall.at.signature (λ 𝓤. att_mtu'.GetAttMtuHandleCallSlotCall.at.spec) (tie_t (in_world program) att_mtu.GetAttMtuHandleCallSlotCall.at.Symbol.name)
«att_mtu::GetAttMtuHandleCallSlotCall::at» = everywhere.«att_mtu::GetAttMtuHandleCallSlotCall::at» (tie_t (in_world program)) (in_program (in_world program) att_mtu.GetAttMtuHandleCallSlotCall.at.Symbol.code has-att_mtu-GetAttMtuHandleCallSlotCall-at)

pub «negotiated_mtu::negotiate_att_mtu» : Returns negotiated_mtu'.negotiate_att_mtu.signature (λ 𝓤. negotiated_mtu'.negotiate_att_mtu.spec) (tie_t (in_world program) negotiated_mtu.negotiate_att_mtu.Symbol.name)
«negotiated_mtu::negotiate_att_mtu» = everywhere.«negotiated_mtu::negotiate_att_mtu» (tie_t (in_world program)) (in_program (in_world program) negotiated_mtu.negotiate_att_mtu.Symbol.code has-negotiated_mtu-negotiate_att_mtu)

pub «negotiated_mtu::get_stored_att_mtu» : Returns negotiated_mtu'.get_stored_att_mtu.signature (λ 𝓤. negotiated_mtu'.get_stored_att_mtu.spec) (tie_t (in_world program) negotiated_mtu.get_stored_att_mtu.Symbol.name)
«negotiated_mtu::get_stored_att_mtu» = everywhere.«negotiated_mtu::get_stored_att_mtu» (tie_t (in_world program)) (in_program (in_world program) negotiated_mtu.get_stored_att_mtu.Symbol.code has-negotiated_mtu-get_stored_att_mtu)

pub «negotiated_mtu::NegotiateAttMtuCallSlotCall::rule» : Returns negotiated_mtu'.NegotiateAttMtuCallSlotCall.rule.signature (λ 𝓤. negotiated_mtu'.NegotiateAttMtuCallSlotCall.rule.spec) (tie_t (in_world program) negotiated_mtu.NegotiateAttMtuCallSlotCall.rule.Symbol.name)
«negotiated_mtu::NegotiateAttMtuCallSlotCall::rule» = everywhere.«negotiated_mtu::NegotiateAttMtuCallSlotCall::rule» (tie_t (in_world program)) (in_program (in_world program) negotiated_mtu.NegotiateAttMtuCallSlotCall.rule.Symbol.code has-negotiated_mtu-NegotiateAttMtuCallSlotCall-rule)

pub «negotiated_mtu::NegotiateAttMtuCallSlotCall::absent» : Returns negotiated_mtu'.NegotiateAttMtuCallSlotCall.absent.signature (λ 𝓤. negotiated_mtu'.NegotiateAttMtuCallSlotCall.absent.spec) (tie_t (in_world program) negotiated_mtu.NegotiateAttMtuCallSlotCall.absent.Symbol.name)
«negotiated_mtu::NegotiateAttMtuCallSlotCall::absent» = everywhere.«negotiated_mtu::NegotiateAttMtuCallSlotCall::absent» (tie_t (in_world program)) (in_program (in_world program) negotiated_mtu.NegotiateAttMtuCallSlotCall.absent.Symbol.code has-negotiated_mtu-NegotiateAttMtuCallSlotCall-absent)

pub «negotiated_mtu::NegotiateAttMtuCallSlotCall::at» : Returns negotiated_mtu'.NegotiateAttMtuCallSlotCall.at.signature (λ 𝓤. negotiated_mtu'.NegotiateAttMtuCallSlotCall.at.spec) (tie_t (in_world program) negotiated_mtu.NegotiateAttMtuCallSlotCall.at.Symbol.name)
«negotiated_mtu::NegotiateAttMtuCallSlotCall::at» = everywhere.«negotiated_mtu::NegotiateAttMtuCallSlotCall::at» (tie_t (in_world program)) (in_program (in_world program) negotiated_mtu.NegotiateAttMtuCallSlotCall.at.Symbol.code has-negotiated_mtu-NegotiateAttMtuCallSlotCall-at)

pub «negotiated_mtu::GetStoredAttMtuCallSlotCall::rule» : Returns negotiated_mtu'.GetStoredAttMtuCallSlotCall.rule.signature (λ 𝓤. negotiated_mtu'.GetStoredAttMtuCallSlotCall.rule.spec) (tie_t (in_world program) negotiated_mtu.GetStoredAttMtuCallSlotCall.rule.Symbol.name)
«negotiated_mtu::GetStoredAttMtuCallSlotCall::rule» = everywhere.«negotiated_mtu::GetStoredAttMtuCallSlotCall::rule» (tie_t (in_world program)) (in_program (in_world program) negotiated_mtu.GetStoredAttMtuCallSlotCall.rule.Symbol.code has-negotiated_mtu-GetStoredAttMtuCallSlotCall-rule)

pub «negotiated_mtu::GetStoredAttMtuCallSlotCall::absent» : Returns negotiated_mtu'.GetStoredAttMtuCallSlotCall.absent.signature (λ 𝓤. negotiated_mtu'.GetStoredAttMtuCallSlotCall.absent.spec) (tie_t (in_world program) negotiated_mtu.GetStoredAttMtuCallSlotCall.absent.Symbol.name)
«negotiated_mtu::GetStoredAttMtuCallSlotCall::absent» = everywhere.«negotiated_mtu::GetStoredAttMtuCallSlotCall::absent» (tie_t (in_world program)) (in_program (in_world program) negotiated_mtu.GetStoredAttMtuCallSlotCall.absent.Symbol.code has-negotiated_mtu-GetStoredAttMtuCallSlotCall-absent)

pub «negotiated_mtu::GetStoredAttMtuCallSlotCall::at» : Returns negotiated_mtu'.GetStoredAttMtuCallSlotCall.at.signature (λ 𝓤. negotiated_mtu'.GetStoredAttMtuCallSlotCall.at.spec) (tie_t (in_world program) negotiated_mtu.GetStoredAttMtuCallSlotCall.at.Symbol.name)
«negotiated_mtu::GetStoredAttMtuCallSlotCall::at» = everywhere.«negotiated_mtu::GetStoredAttMtuCallSlotCall::at» (tie_t (in_world program)) (in_program (in_world program) negotiated_mtu.GetStoredAttMtuCallSlotCall.at.Symbol.code has-negotiated_mtu-GetStoredAttMtuCallSlotCall-at)

pub «signal_indication_confirmation::signal_indication_confirmation» : Returns signal_indication_confirmation'.signal_indication_confirmation.signature (λ 𝓤. signal_indication_confirmation'.signal_indication_confirmation.spec) (tie_t (in_world program) signal_indication_confirmation.signal_indication_confirmation.Symbol.name)
«signal_indication_confirmation::signal_indication_confirmation» = everywhere.«signal_indication_confirmation::signal_indication_confirmation» (tie_t (in_world program)) (in_program (in_world program) signal_indication_confirmation.signal_indication_confirmation.Symbol.code has-signal_indication_confirmation-signal_indication_confirmation)

pub «signal_indication_confirmation::SignalIndicationConfirmationCallSlotCall::rule» : Returns signal_indication_confirmation'.SignalIndicationConfirmationCallSlotCall.rule.signature (λ 𝓤. signal_indication_confirmation'.SignalIndicationConfirmationCallSlotCall.rule.spec) (tie_t (in_world program) signal_indication_confirmation.SignalIndicationConfirmationCallSlotCall.rule.Symbol.name)
«signal_indication_confirmation::SignalIndicationConfirmationCallSlotCall::rule» = everywhere.«signal_indication_confirmation::SignalIndicationConfirmationCallSlotCall::rule» (tie_t (in_world program)) (in_program (in_world program) signal_indication_confirmation.SignalIndicationConfirmationCallSlotCall.rule.Symbol.code has-signal_indication_confirmation-SignalIndicationConfirmationCallSlotCall-rule)

pub «signal_indication_confirmation::SignalIndicationConfirmationCallSlotCall::absent» : Returns signal_indication_confirmation'.SignalIndicationConfirmationCallSlotCall.absent.signature (λ 𝓤. signal_indication_confirmation'.SignalIndicationConfirmationCallSlotCall.absent.spec) (tie_t (in_world program) signal_indication_confirmation.SignalIndicationConfirmationCallSlotCall.absent.Symbol.name)
«signal_indication_confirmation::SignalIndicationConfirmationCallSlotCall::absent» = everywhere.«signal_indication_confirmation::SignalIndicationConfirmationCallSlotCall::absent» (tie_t (in_world program)) (in_program (in_world program) signal_indication_confirmation.SignalIndicationConfirmationCallSlotCall.absent.Symbol.code has-signal_indication_confirmation-SignalIndicationConfirmationCallSlotCall-absent)

pub «signal_indication_confirmation::SignalIndicationConfirmationCallSlotCall::at» : Returns signal_indication_confirmation'.SignalIndicationConfirmationCallSlotCall.at.signature (λ 𝓤. signal_indication_confirmation'.SignalIndicationConfirmationCallSlotCall.at.spec) (tie_t (in_world program) signal_indication_confirmation.SignalIndicationConfirmationCallSlotCall.at.Symbol.name)
«signal_indication_confirmation::SignalIndicationConfirmationCallSlotCall::at» = everywhere.«signal_indication_confirmation::SignalIndicationConfirmationCallSlotCall::at» (tie_t (in_world program)) (in_program (in_world program) signal_indication_confirmation.SignalIndicationConfirmationCallSlotCall.at.Symbol.code has-signal_indication_confirmation-SignalIndicationConfirmationCallSlotCall-at)

pub «wait_indication_confirmation::wait_indication_confirmation» : Returns wait_indication_confirmation'.wait_indication_confirmation.signature (λ 𝓤. wait_indication_confirmation'.wait_indication_confirmation.spec) (tie_t (in_world program) wait_indication_confirmation.wait_indication_confirmation.Symbol.name)
«wait_indication_confirmation::wait_indication_confirmation» = everywhere.«wait_indication_confirmation::wait_indication_confirmation» (tie_t (in_world program)) (in_program (in_world program) wait_indication_confirmation.wait_indication_confirmation.Symbol.code has-wait_indication_confirmation-wait_indication_confirmation)

pub «wait_indication_confirmation::WaitIndicationConfirmationCallSlotCall::rule» : Returns wait_indication_confirmation'.WaitIndicationConfirmationCallSlotCall.rule.signature (λ 𝓤. wait_indication_confirmation'.WaitIndicationConfirmationCallSlotCall.rule.spec) (tie_t (in_world program) wait_indication_confirmation.WaitIndicationConfirmationCallSlotCall.rule.Symbol.name)
«wait_indication_confirmation::WaitIndicationConfirmationCallSlotCall::rule» = everywhere.«wait_indication_confirmation::WaitIndicationConfirmationCallSlotCall::rule» (tie_t (in_world program)) (in_program (in_world program) wait_indication_confirmation.WaitIndicationConfirmationCallSlotCall.rule.Symbol.code has-wait_indication_confirmation-WaitIndicationConfirmationCallSlotCall-rule)

pub «wait_indication_confirmation::WaitIndicationConfirmationCallSlotCall::absent» : Returns wait_indication_confirmation'.WaitIndicationConfirmationCallSlotCall.absent.signature (λ 𝓤. wait_indication_confirmation'.WaitIndicationConfirmationCallSlotCall.absent.spec) (tie_t (in_world program) wait_indication_confirmation.WaitIndicationConfirmationCallSlotCall.absent.Symbol.name)
«wait_indication_confirmation::WaitIndicationConfirmationCallSlotCall::absent» = everywhere.«wait_indication_confirmation::WaitIndicationConfirmationCallSlotCall::absent» (tie_t (in_world program)) (in_program (in_world program) wait_indication_confirmation.WaitIndicationConfirmationCallSlotCall.absent.Symbol.code has-wait_indication_confirmation-WaitIndicationConfirmationCallSlotCall-absent)

pub «wait_indication_confirmation::WaitIndicationConfirmationCallSlotCall::at» : Returns wait_indication_confirmation'.WaitIndicationConfirmationCallSlotCall.at.signature (λ 𝓤. wait_indication_confirmation'.WaitIndicationConfirmationCallSlotCall.at.spec) (tie_t (in_world program) wait_indication_confirmation.WaitIndicationConfirmationCallSlotCall.at.Symbol.name)
«wait_indication_confirmation::WaitIndicationConfirmationCallSlotCall::at» = everywhere.«wait_indication_confirmation::WaitIndicationConfirmationCallSlotCall::at» (tie_t (in_world program)) (in_program (in_world program) wait_indication_confirmation.WaitIndicationConfirmationCallSlotCall.at.Symbol.code has-wait_indication_confirmation-WaitIndicationConfirmationCallSlotCall-at)

pub «post_handle_event::post_handle_event» : Returns post_handle_event'.post_handle_event.signature (λ 𝓤. post_handle_event'.post_handle_event.spec) (tie_t (in_world program) post_handle_event.post_handle_event.Symbol.name)
«post_handle_event::post_handle_event» = everywhere.«post_handle_event::post_handle_event» (tie_t (in_world program)) (in_program (in_world program) post_handle_event.post_handle_event.Symbol.code has-post_handle_event-post_handle_event)

pub «post_handle_event::PostHandleEventCallSlotCall::rule» : Returns post_handle_event'.PostHandleEventCallSlotCall.rule.signature (λ 𝓤. post_handle_event'.PostHandleEventCallSlotCall.rule.spec) (tie_t (in_world program) post_handle_event.PostHandleEventCallSlotCall.rule.Symbol.name)
«post_handle_event::PostHandleEventCallSlotCall::rule» = everywhere.«post_handle_event::PostHandleEventCallSlotCall::rule» (tie_t (in_world program)) (in_program (in_world program) post_handle_event.PostHandleEventCallSlotCall.rule.Symbol.code has-post_handle_event-PostHandleEventCallSlotCall-rule)

pub «post_handle_event::PostHandleEventCallSlotCall::absent» : Returns post_handle_event'.PostHandleEventCallSlotCall.absent.signature (λ 𝓤. post_handle_event'.PostHandleEventCallSlotCall.absent.spec) (tie_t (in_world program) post_handle_event.PostHandleEventCallSlotCall.absent.Symbol.name)
«post_handle_event::PostHandleEventCallSlotCall::absent» = everywhere.«post_handle_event::PostHandleEventCallSlotCall::absent» (tie_t (in_world program)) (in_program (in_world program) post_handle_event.PostHandleEventCallSlotCall.absent.Symbol.code has-post_handle_event-PostHandleEventCallSlotCall-absent)

pub «post_handle_event::PostHandleEventCallSlotCall::at» : Returns post_handle_event'.PostHandleEventCallSlotCall.at.signature (λ 𝓤. post_handle_event'.PostHandleEventCallSlotCall.at.spec) (tie_t (in_world program) post_handle_event.PostHandleEventCallSlotCall.at.Symbol.name)
«post_handle_event::PostHandleEventCallSlotCall::at» = everywhere.«post_handle_event::PostHandleEventCallSlotCall::at» (tie_t (in_world program)) (in_program (in_world program) post_handle_event.PostHandleEventCallSlotCall.at.Symbol.code has-post_handle_event-PostHandleEventCallSlotCall-at)

pub «next::next» : Returns next'.next.signature (λ 𝓤. next'.next.spec) (tie_t (in_world program) next.next.Symbol.name)
«next::next» = everywhere.«next::next» (tie_t (in_world program)) (in_program (in_world program) next.next.Symbol.code has-next-next)

pub «next::NextCallSlotCall::rule» : Returns next'.NextCallSlotCall.rule.signature (λ 𝓤. next'.NextCallSlotCall.rule.spec) (tie_t (in_world program) next.NextCallSlotCall.rule.Symbol.name)
«next::NextCallSlotCall::rule» = everywhere.«next::NextCallSlotCall::rule» (tie_t (in_world program)) (in_program (in_world program) next.NextCallSlotCall.rule.Symbol.code has-next-NextCallSlotCall-rule)

pub «next::NextCallSlotCall::absent» : Returns next'.NextCallSlotCall.absent.signature (λ 𝓤. next'.NextCallSlotCall.absent.spec) (tie_t (in_world program) next.NextCallSlotCall.absent.Symbol.name)
«next::NextCallSlotCall::absent» = everywhere.«next::NextCallSlotCall::absent» (tie_t (in_world program)) (in_program (in_world program) next.NextCallSlotCall.absent.Symbol.code has-next-NextCallSlotCall-absent)

pub «next::NextCallSlotCall::at» : Returns next'.NextCallSlotCall.at.signature (λ 𝓤. next'.NextCallSlotCall.at.spec) (tie_t (in_world program) next.NextCallSlotCall.at.Symbol.name)
«next::NextCallSlotCall::at» = everywhere.«next::NextCallSlotCall::at» (tie_t (in_world program)) (in_program (in_world program) next.NextCallSlotCall.at.Symbol.code has-next-NextCallSlotCall-at)

pub «acquire_indication_slot::acquire_indication_slot» : Returns acquire_indication_slot'.acquire_indication_slot.signature (λ 𝓤. acquire_indication_slot'.acquire_indication_slot.spec) (tie_t (in_world program) acquire_indication_slot.acquire_indication_slot.Symbol.name)
«acquire_indication_slot::acquire_indication_slot» = everywhere.«acquire_indication_slot::acquire_indication_slot» (tie_t (in_world program)) (in_program (in_world program) acquire_indication_slot.acquire_indication_slot.Symbol.code has-acquire_indication_slot-acquire_indication_slot)

pub «acquire_indication_slot::AcquireIndicationSlotCallSlotCall::rule» : Returns acquire_indication_slot'.AcquireIndicationSlotCallSlotCall.rule.signature (λ 𝓤. acquire_indication_slot'.AcquireIndicationSlotCallSlotCall.rule.spec) (tie_t (in_world program) acquire_indication_slot.AcquireIndicationSlotCallSlotCall.rule.Symbol.name)
«acquire_indication_slot::AcquireIndicationSlotCallSlotCall::rule» = everywhere.«acquire_indication_slot::AcquireIndicationSlotCallSlotCall::rule» (tie_t (in_world program)) (in_program (in_world program) acquire_indication_slot.AcquireIndicationSlotCallSlotCall.rule.Symbol.code has-acquire_indication_slot-AcquireIndicationSlotCallSlotCall-rule)

pub «acquire_indication_slot::AcquireIndicationSlotCallSlotCall::absent» : Returns acquire_indication_slot'.AcquireIndicationSlotCallSlotCall.absent.signature (λ 𝓤. acquire_indication_slot'.AcquireIndicationSlotCallSlotCall.absent.spec) (tie_t (in_world program) acquire_indication_slot.AcquireIndicationSlotCallSlotCall.absent.Symbol.name)
«acquire_indication_slot::AcquireIndicationSlotCallSlotCall::absent» = everywhere.«acquire_indication_slot::AcquireIndicationSlotCallSlotCall::absent» (tie_t (in_world program)) (in_program (in_world program) acquire_indication_slot.AcquireIndicationSlotCallSlotCall.absent.Symbol.code has-acquire_indication_slot-AcquireIndicationSlotCallSlotCall-absent)

pub «acquire_indication_slot::AcquireIndicationSlotCallSlotCall::at» : Returns acquire_indication_slot'.AcquireIndicationSlotCallSlotCall.at.signature (λ 𝓤. acquire_indication_slot'.AcquireIndicationSlotCallSlotCall.at.spec) (tie_t (in_world program) acquire_indication_slot.AcquireIndicationSlotCallSlotCall.at.Symbol.name)
«acquire_indication_slot::AcquireIndicationSlotCallSlotCall::at» = everywhere.«acquire_indication_slot::AcquireIndicationSlotCallSlotCall::at» (tie_t (in_world program)) (in_program (in_world program) acquire_indication_slot.AcquireIndicationSlotCallSlotCall.at.Symbol.code has-acquire_indication_slot-AcquireIndicationSlotCallSlotCall-at)

pub «release_indication_slot::release_indication_slot» : Returns release_indication_slot'.release_indication_slot.signature (λ 𝓤. release_indication_slot'.release_indication_slot.spec) (tie_t (in_world program) release_indication_slot.release_indication_slot.Symbol.name)
«release_indication_slot::release_indication_slot» = everywhere.«release_indication_slot::release_indication_slot» (tie_t (in_world program)) (in_program (in_world program) release_indication_slot.release_indication_slot.Symbol.code has-release_indication_slot-release_indication_slot)

pub «release_indication_slot::ReleaseIndicationSlotCallSlotCall::rule» : Returns release_indication_slot'.ReleaseIndicationSlotCallSlotCall.rule.signature (λ 𝓤. release_indication_slot'.ReleaseIndicationSlotCallSlotCall.rule.spec) (tie_t (in_world program) release_indication_slot.ReleaseIndicationSlotCallSlotCall.rule.Symbol.name)
«release_indication_slot::ReleaseIndicationSlotCallSlotCall::rule» = everywhere.«release_indication_slot::ReleaseIndicationSlotCallSlotCall::rule» (tie_t (in_world program)) (in_program (in_world program) release_indication_slot.ReleaseIndicationSlotCallSlotCall.rule.Symbol.code has-release_indication_slot-ReleaseIndicationSlotCallSlotCall-rule)

pub «release_indication_slot::ReleaseIndicationSlotCallSlotCall::absent» : Returns release_indication_slot'.ReleaseIndicationSlotCallSlotCall.absent.signature (λ 𝓤. release_indication_slot'.ReleaseIndicationSlotCallSlotCall.absent.spec) (tie_t (in_world program) release_indication_slot.ReleaseIndicationSlotCallSlotCall.absent.Symbol.name)
«release_indication_slot::ReleaseIndicationSlotCallSlotCall::absent» = everywhere.«release_indication_slot::ReleaseIndicationSlotCallSlotCall::absent» (tie_t (in_world program)) (in_program (in_world program) release_indication_slot.ReleaseIndicationSlotCallSlotCall.absent.Symbol.code has-release_indication_slot-ReleaseIndicationSlotCallSlotCall-absent)

pub «release_indication_slot::ReleaseIndicationSlotCallSlotCall::at» : Returns release_indication_slot'.ReleaseIndicationSlotCallSlotCall.at.signature (λ 𝓤. release_indication_slot'.ReleaseIndicationSlotCallSlotCall.at.spec) (tie_t (in_world program) release_indication_slot.ReleaseIndicationSlotCallSlotCall.at.Symbol.name)
«release_indication_slot::ReleaseIndicationSlotCallSlotCall::at» = everywhere.«release_indication_slot::ReleaseIndicationSlotCallSlotCall::at» (tie_t (in_world program)) (in_program (in_world program) release_indication_slot.ReleaseIndicationSlotCallSlotCall.at.Symbol.code has-release_indication_slot-ReleaseIndicationSlotCallSlotCall-at)

pub «all_credits::set_link_credits_in» : Returns all_credits'.set_link_credits_in.signature (λ 𝓤. all_credits'.set_link_credits_in.spec) (tie_t (in_world program) all_credits.set_link_credits_in.Symbol.name)
«all_credits::set_link_credits_in» = everywhere.«all_credits::set_link_credits_in» (tie_t (in_world program)) (in_program (in_world program) all_credits.set_link_credits_in.Symbol.code has-all_credits-set_link_credits_in)

pub «all_credits::set_link_credits» : Returns all_credits'.set_link_credits.signature (λ 𝓤. all_credits'.set_link_credits.spec) (tie_t (in_world program) all_credits.set_link_credits.Symbol.name)
«all_credits::set_link_credits» = everywhere.«all_credits::set_link_credits» (tie_t (in_world program)) (in_program (in_world program) all_credits.set_link_credits.Symbol.code has-all_credits-set_link_credits)

pub «total_lost::total_lost_in» : Returns total_lost'.total_lost_in.signature (λ 𝓤. total_lost'.total_lost_in.spec) (tie_t (in_world program) total_lost.total_lost_in.Symbol.name)
«total_lost::total_lost_in» = everywhere.«total_lost::total_lost_in» (tie_t (in_world program)) (in_program (in_world program) total_lost.total_lost_in.Symbol.code has-total_lost-total_lost_in)

pub «total_lost::total_lost» : Returns total_lost'.total_lost.signature (λ 𝓤. total_lost'.total_lost.spec) (tie_t (in_world program) total_lost.total_lost.Symbol.name)
«total_lost::total_lost» = everywhere.«total_lost::total_lost» (tie_t (in_world program)) (in_program (in_world program) total_lost.total_lost.Symbol.code has-total_lost-total_lost)

pub «confirm_sent::confirm_sent» : Returns confirm_sent'.confirm_sent.signature (λ 𝓤. confirm_sent'.confirm_sent.spec) (tie_t (in_world program) confirm_sent.confirm_sent.Symbol.name)
«confirm_sent::confirm_sent» = everywhere.«confirm_sent::confirm_sent» (tie_t (in_world program)) (in_program (in_world program) confirm_sent.confirm_sent.Symbol.code has-confirm_sent-confirm_sent)

pub «confirm_sent::ConfirmSentCallSlotCall::rule» : Returns confirm_sent'.ConfirmSentCallSlotCall.rule.signature (λ 𝓤. confirm_sent'.ConfirmSentCallSlotCall.rule.spec) (tie_t (in_world program) confirm_sent.ConfirmSentCallSlotCall.rule.Symbol.name)
«confirm_sent::ConfirmSentCallSlotCall::rule» = everywhere.«confirm_sent::ConfirmSentCallSlotCall::rule» (tie_t (in_world program)) (in_program (in_world program) confirm_sent.ConfirmSentCallSlotCall.rule.Symbol.code has-confirm_sent-ConfirmSentCallSlotCall-rule)

pub «confirm_sent::ConfirmSentCallSlotCall::absent» : Returns confirm_sent'.ConfirmSentCallSlotCall.absent.signature (λ 𝓤. confirm_sent'.ConfirmSentCallSlotCall.absent.spec) (tie_t (in_world program) confirm_sent.ConfirmSentCallSlotCall.absent.Symbol.name)
«confirm_sent::ConfirmSentCallSlotCall::absent» = everywhere.«confirm_sent::ConfirmSentCallSlotCall::absent» (tie_t (in_world program)) (in_program (in_world program) confirm_sent.ConfirmSentCallSlotCall.absent.Symbol.code has-confirm_sent-ConfirmSentCallSlotCall-absent)

pub «confirm_sent::ConfirmSentCallSlotCall::at» : Returns confirm_sent'.ConfirmSentCallSlotCall.at.signature (λ 𝓤. confirm_sent'.ConfirmSentCallSlotCall.at.spec) (tie_t (in_world program) confirm_sent.ConfirmSentCallSlotCall.at.Symbol.name)
«confirm_sent::ConfirmSentCallSlotCall::at» = everywhere.«confirm_sent::ConfirmSentCallSlotCall::at» (tie_t (in_world program)) (in_program (in_world program) confirm_sent.ConfirmSentCallSlotCall.at.Symbol.code has-confirm_sent-ConfirmSentCallSlotCall-at)

pub «has_link_credits::has_link_credits» : Returns has_link_credits'.has_link_credits.signature (λ 𝓤. has_link_credits'.has_link_credits.spec) (tie_t (in_world program) has_link_credits.has_link_credits.Symbol.name)
«has_link_credits::has_link_credits» = everywhere.«has_link_credits::has_link_credits» (tie_t (in_world program)) (in_program (in_world program) has_link_credits.has_link_credits.Symbol.code has-has_link_credits-has_link_credits)

pub «has_link_credits::HasLinkCreditsCallSlotCall::rule» : Returns has_link_credits'.HasLinkCreditsCallSlotCall.rule.signature (λ 𝓤. has_link_credits'.HasLinkCreditsCallSlotCall.rule.spec) (tie_t (in_world program) has_link_credits.HasLinkCreditsCallSlotCall.rule.Symbol.name)
«has_link_credits::HasLinkCreditsCallSlotCall::rule» = everywhere.«has_link_credits::HasLinkCreditsCallSlotCall::rule» (tie_t (in_world program)) (in_program (in_world program) has_link_credits.HasLinkCreditsCallSlotCall.rule.Symbol.code has-has_link_credits-HasLinkCreditsCallSlotCall-rule)

pub «has_link_credits::HasLinkCreditsCallSlotCall::absent» : Returns has_link_credits'.HasLinkCreditsCallSlotCall.absent.signature (λ 𝓤. has_link_credits'.HasLinkCreditsCallSlotCall.absent.spec) (tie_t (in_world program) has_link_credits.HasLinkCreditsCallSlotCall.absent.Symbol.name)
«has_link_credits::HasLinkCreditsCallSlotCall::absent» = everywhere.«has_link_credits::HasLinkCreditsCallSlotCall::absent» (tie_t (in_world program)) (in_program (in_world program) has_link_credits.HasLinkCreditsCallSlotCall.absent.Symbol.code has-has_link_credits-HasLinkCreditsCallSlotCall-absent)

pub «has_link_credits::HasLinkCreditsCallSlotCall::at» : Returns has_link_credits'.HasLinkCreditsCallSlotCall.at.signature (λ 𝓤. has_link_credits'.HasLinkCreditsCallSlotCall.at.spec) (tie_t (in_world program) has_link_credits.HasLinkCreditsCallSlotCall.at.Symbol.name)
«has_link_credits::HasLinkCreditsCallSlotCall::at» = everywhere.«has_link_credits::HasLinkCreditsCallSlotCall::at» (tie_t (in_world program)) (in_program (in_world program) has_link_credits.HasLinkCreditsCallSlotCall.at.Symbol.code has-has_link_credits-HasLinkCreditsCallSlotCall-at)

pub «poll_request_to_send::poll_request_to_send» : Returns poll_request_to_send'.poll_request_to_send.signature (λ 𝓤. poll_request_to_send'.poll_request_to_send.spec) (tie_t (in_world program) poll_request_to_send.poll_request_to_send.Symbol.name)
«poll_request_to_send::poll_request_to_send» = everywhere.«poll_request_to_send::poll_request_to_send» (tie_t (in_world program)) (in_program (in_world program) poll_request_to_send.poll_request_to_send.Symbol.code has-poll_request_to_send-poll_request_to_send)

pub «poll_request_to_send::PollRequestToSendCallSlotCall::rule» : Returns poll_request_to_send'.PollRequestToSendCallSlotCall.rule.signature (λ 𝓤. poll_request_to_send'.PollRequestToSendCallSlotCall.rule.spec) (tie_t (in_world program) poll_request_to_send.PollRequestToSendCallSlotCall.rule.Symbol.name)
«poll_request_to_send::PollRequestToSendCallSlotCall::rule» = everywhere.«poll_request_to_send::PollRequestToSendCallSlotCall::rule» (tie_t (in_world program)) (in_program (in_world program) poll_request_to_send.PollRequestToSendCallSlotCall.rule.Symbol.code has-poll_request_to_send-PollRequestToSendCallSlotCall-rule)

pub «poll_request_to_send::PollRequestToSendCallSlotCall::absent» : Returns poll_request_to_send'.PollRequestToSendCallSlotCall.absent.signature (λ 𝓤. poll_request_to_send'.PollRequestToSendCallSlotCall.absent.spec) (tie_t (in_world program) poll_request_to_send.PollRequestToSendCallSlotCall.absent.Symbol.name)
«poll_request_to_send::PollRequestToSendCallSlotCall::absent» = everywhere.«poll_request_to_send::PollRequestToSendCallSlotCall::absent» (tie_t (in_world program)) (in_program (in_world program) poll_request_to_send.PollRequestToSendCallSlotCall.absent.Symbol.code has-poll_request_to_send-PollRequestToSendCallSlotCall-absent)

pub «poll_request_to_send::PollRequestToSendCallSlotCall::at» : Returns poll_request_to_send'.PollRequestToSendCallSlotCall.at.signature (λ 𝓤. poll_request_to_send'.PollRequestToSendCallSlotCall.at.spec) (tie_t (in_world program) poll_request_to_send.PollRequestToSendCallSlotCall.at.Symbol.name)
«poll_request_to_send::PollRequestToSendCallSlotCall::at» = everywhere.«poll_request_to_send::PollRequestToSendCallSlotCall::at» (tie_t (in_world program)) (in_program (in_world program) poll_request_to_send.PollRequestToSendCallSlotCall.at.Symbol.code has-poll_request_to_send-PollRequestToSendCallSlotCall-at)

pub «grant_end::grant_end» : Returns grant_end'.grant_end.signature (λ 𝓤. grant_end'.grant_end.spec) (tie_t (in_world program) grant_end.grant_end.Symbol.name)
«grant_end::grant_end» = everywhere.«grant_end::grant_end» (tie_t (in_world program)) (in_program (in_world program) grant_end.grant_end.Symbol.code has-grant_end-grant_end)

pub «grant_end::GrantEndCallSlotCall::rule» : Returns grant_end'.GrantEndCallSlotCall.rule.signature (λ 𝓤. grant_end'.GrantEndCallSlotCall.rule.spec) (tie_t (in_world program) grant_end.GrantEndCallSlotCall.rule.Symbol.name)
«grant_end::GrantEndCallSlotCall::rule» = everywhere.«grant_end::GrantEndCallSlotCall::rule» (tie_t (in_world program)) (in_program (in_world program) grant_end.GrantEndCallSlotCall.rule.Symbol.code has-grant_end-GrantEndCallSlotCall-rule)

pub «grant_end::GrantEndCallSlotCall::absent» : Returns grant_end'.GrantEndCallSlotCall.absent.signature (λ 𝓤. grant_end'.GrantEndCallSlotCall.absent.spec) (tie_t (in_world program) grant_end.GrantEndCallSlotCall.absent.Symbol.name)
«grant_end::GrantEndCallSlotCall::absent» = everywhere.«grant_end::GrantEndCallSlotCall::absent» (tie_t (in_world program)) (in_program (in_world program) grant_end.GrantEndCallSlotCall.absent.Symbol.code has-grant_end-GrantEndCallSlotCall-absent)

pub «grant_end::GrantEndCallSlotCall::at» : Returns grant_end'.GrantEndCallSlotCall.at.signature (λ 𝓤. grant_end'.GrantEndCallSlotCall.at.spec) (tie_t (in_world program) grant_end.GrantEndCallSlotCall.at.Symbol.name)
«grant_end::GrantEndCallSlotCall::at» = everywhere.«grant_end::GrantEndCallSlotCall::at» (tie_t (in_world program)) (in_program (in_world program) grant_end.GrantEndCallSlotCall.at.Symbol.code has-grant_end-GrantEndCallSlotCall-at)

pub «poll_acquire_acl_send_lock::poll_acquire_acl_send_lock» : Returns poll_acquire_acl_send_lock'.poll_acquire_acl_send_lock.signature (λ 𝓤. poll_acquire_acl_send_lock'.poll_acquire_acl_send_lock.spec) (tie_t (in_world program) poll_acquire_acl_send_lock.poll_acquire_acl_send_lock.Symbol.name)
«poll_acquire_acl_send_lock::poll_acquire_acl_send_lock» = everywhere.«poll_acquire_acl_send_lock::poll_acquire_acl_send_lock» (tie_t (in_world program)) (in_program (in_world program) poll_acquire_acl_send_lock.poll_acquire_acl_send_lock.Symbol.code has-poll_acquire_acl_send_lock-poll_acquire_acl_send_lock)

pub «poll_acquire_acl_send_lock::PollAcquireAclSendLockCallSlotCall::rule» : Returns poll_acquire_acl_send_lock'.PollAcquireAclSendLockCallSlotCall.rule.signature (λ 𝓤. poll_acquire_acl_send_lock'.PollAcquireAclSendLockCallSlotCall.rule.spec) (tie_t (in_world program) poll_acquire_acl_send_lock.PollAcquireAclSendLockCallSlotCall.rule.Symbol.name)
«poll_acquire_acl_send_lock::PollAcquireAclSendLockCallSlotCall::rule» = everywhere.«poll_acquire_acl_send_lock::PollAcquireAclSendLockCallSlotCall::rule» (tie_t (in_world program)) (in_program (in_world program) poll_acquire_acl_send_lock.PollAcquireAclSendLockCallSlotCall.rule.Symbol.code has-poll_acquire_acl_send_lock-PollAcquireAclSendLockCallSlotCall-rule)

pub «poll_acquire_acl_send_lock::PollAcquireAclSendLockCallSlotCall::absent» : Returns poll_acquire_acl_send_lock'.PollAcquireAclSendLockCallSlotCall.absent.signature (λ 𝓤. poll_acquire_acl_send_lock'.PollAcquireAclSendLockCallSlotCall.absent.spec) (tie_t (in_world program) poll_acquire_acl_send_lock.PollAcquireAclSendLockCallSlotCall.absent.Symbol.name)
«poll_acquire_acl_send_lock::PollAcquireAclSendLockCallSlotCall::absent» = everywhere.«poll_acquire_acl_send_lock::PollAcquireAclSendLockCallSlotCall::absent» (tie_t (in_world program)) (in_program (in_world program) poll_acquire_acl_send_lock.PollAcquireAclSendLockCallSlotCall.absent.Symbol.code has-poll_acquire_acl_send_lock-PollAcquireAclSendLockCallSlotCall-absent)

pub «poll_acquire_acl_send_lock::PollAcquireAclSendLockCallSlotCall::at» : Returns poll_acquire_acl_send_lock'.PollAcquireAclSendLockCallSlotCall.at.signature (λ 𝓤. poll_acquire_acl_send_lock'.PollAcquireAclSendLockCallSlotCall.at.spec) (tie_t (in_world program) poll_acquire_acl_send_lock.PollAcquireAclSendLockCallSlotCall.at.Symbol.name)
«poll_acquire_acl_send_lock::PollAcquireAclSendLockCallSlotCall::at» = everywhere.«poll_acquire_acl_send_lock::PollAcquireAclSendLockCallSlotCall::at» (tie_t (in_world program)) (in_program (in_world program) poll_acquire_acl_send_lock.PollAcquireAclSendLockCallSlotCall.at.Symbol.code has-poll_acquire_acl_send_lock-PollAcquireAclSendLockCallSlotCall-at)

pub «unlock_acl_send::unlock_acl_send» : Returns unlock_acl_send'.unlock_acl_send.signature (λ 𝓤. unlock_acl_send'.unlock_acl_send.spec) (tie_t (in_world program) unlock_acl_send.unlock_acl_send.Symbol.name)
«unlock_acl_send::unlock_acl_send» = everywhere.«unlock_acl_send::unlock_acl_send» (tie_t (in_world program)) (in_program (in_world program) unlock_acl_send.unlock_acl_send.Symbol.code has-unlock_acl_send-unlock_acl_send)

pub «unlock_acl_send::UnlockAclSendCallSlotCall::rule» : Returns unlock_acl_send'.UnlockAclSendCallSlotCall.rule.signature (λ 𝓤. unlock_acl_send'.UnlockAclSendCallSlotCall.rule.spec) (tie_t (in_world program) unlock_acl_send.UnlockAclSendCallSlotCall.rule.Symbol.name)
«unlock_acl_send::UnlockAclSendCallSlotCall::rule» = everywhere.«unlock_acl_send::UnlockAclSendCallSlotCall::rule» (tie_t (in_world program)) (in_program (in_world program) unlock_acl_send.UnlockAclSendCallSlotCall.rule.Symbol.code has-unlock_acl_send-UnlockAclSendCallSlotCall-rule)

pub «unlock_acl_send::UnlockAclSendCallSlotCall::absent» : Returns unlock_acl_send'.UnlockAclSendCallSlotCall.absent.signature (λ 𝓤. unlock_acl_send'.UnlockAclSendCallSlotCall.absent.spec) (tie_t (in_world program) unlock_acl_send.UnlockAclSendCallSlotCall.absent.Symbol.name)
«unlock_acl_send::UnlockAclSendCallSlotCall::absent» = everywhere.«unlock_acl_send::UnlockAclSendCallSlotCall::absent» (tie_t (in_world program)) (in_program (in_world program) unlock_acl_send.UnlockAclSendCallSlotCall.absent.Symbol.code has-unlock_acl_send-UnlockAclSendCallSlotCall-absent)

pub «unlock_acl_send::UnlockAclSendCallSlotCall::at» : Returns unlock_acl_send'.UnlockAclSendCallSlotCall.at.signature (λ 𝓤. unlock_acl_send'.UnlockAclSendCallSlotCall.at.spec) (tie_t (in_world program) unlock_acl_send.UnlockAclSendCallSlotCall.at.Symbol.name)
«unlock_acl_send::UnlockAclSendCallSlotCall::at» = everywhere.«unlock_acl_send::UnlockAclSendCallSlotCall::at» (tie_t (in_world program)) (in_program (in_world program) unlock_acl_send.UnlockAclSendCallSlotCall.at.Symbol.code has-unlock_acl_send-UnlockAclSendCallSlotCall-at)

pub «poll_request_from_pool::poll_request_from_pool» : Returns poll_request_from_pool'.poll_request_from_pool.signature (λ 𝓤. poll_request_from_pool'.poll_request_from_pool.spec) (tie_t (in_world program) poll_request_from_pool.poll_request_from_pool.Symbol.name)
«poll_request_from_pool::poll_request_from_pool» = everywhere.«poll_request_from_pool::poll_request_from_pool» (tie_t (in_world program)) (in_program (in_world program) poll_request_from_pool.poll_request_from_pool.Symbol.code has-poll_request_from_pool-poll_request_from_pool)

pub «poll_request_from_pool::PollRequestFromPoolCallSlotCall::rule» : Returns poll_request_from_pool'.PollRequestFromPoolCallSlotCall.rule.signature (λ 𝓤. poll_request_from_pool'.PollRequestFromPoolCallSlotCall.rule.spec) (tie_t (in_world program) poll_request_from_pool.PollRequestFromPoolCallSlotCall.rule.Symbol.name)
«poll_request_from_pool::PollRequestFromPoolCallSlotCall::rule» = everywhere.«poll_request_from_pool::PollRequestFromPoolCallSlotCall::rule» (tie_t (in_world program)) (in_program (in_world program) poll_request_from_pool.PollRequestFromPoolCallSlotCall.rule.Symbol.code has-poll_request_from_pool-PollRequestFromPoolCallSlotCall-rule)

pub «poll_request_from_pool::PollRequestFromPoolCallSlotCall::absent» : Returns poll_request_from_pool'.PollRequestFromPoolCallSlotCall.absent.signature (λ 𝓤. poll_request_from_pool'.PollRequestFromPoolCallSlotCall.absent.spec) (tie_t (in_world program) poll_request_from_pool.PollRequestFromPoolCallSlotCall.absent.Symbol.name)
«poll_request_from_pool::PollRequestFromPoolCallSlotCall::absent» = everywhere.«poll_request_from_pool::PollRequestFromPoolCallSlotCall::absent» (tie_t (in_world program)) (in_program (in_world program) poll_request_from_pool.PollRequestFromPoolCallSlotCall.absent.Symbol.code has-poll_request_from_pool-PollRequestFromPoolCallSlotCall-absent)

pub «poll_request_from_pool::PollRequestFromPoolCallSlotCall::at» : Returns poll_request_from_pool'.PollRequestFromPoolCallSlotCall.at.signature (λ 𝓤. poll_request_from_pool'.PollRequestFromPoolCallSlotCall.at.spec) (tie_t (in_world program) poll_request_from_pool.PollRequestFromPoolCallSlotCall.at.Symbol.name)
«poll_request_from_pool::PollRequestFromPoolCallSlotCall::at» = everywhere.«poll_request_from_pool::PollRequestFromPoolCallSlotCall::at» (tie_t (in_world program)) (in_program (in_world program) poll_request_from_pool.PollRequestFromPoolCallSlotCall.at.Symbol.code has-poll_request_from_pool-PollRequestFromPoolCallSlotCall-at)

pub «pool_returns::pool_confirm_sent» : Returns pool_returns'.pool_confirm_sent.signature (λ 𝓤. pool_returns'.pool_confirm_sent.spec) (tie_t (in_world program) pool_returns.pool_confirm_sent.Symbol.name)
«pool_returns::pool_confirm_sent» = everywhere.«pool_returns::pool_confirm_sent» (tie_t (in_world program)) (in_program (in_world program) pool_returns.pool_confirm_sent.Symbol.code has-pool_returns-pool_confirm_sent)

pub «pool_returns::pool_grant_end» : Returns pool_returns'.pool_grant_end.signature (λ 𝓤. pool_returns'.pool_grant_end.spec) (tie_t (in_world program) pool_returns.pool_grant_end.Symbol.name)
«pool_returns::pool_grant_end» = everywhere.«pool_returns::pool_grant_end» (tie_t (in_world program)) (in_program (in_world program) pool_returns.pool_grant_end.Symbol.code has-pool_returns-pool_grant_end)

pub «pool_returns::PoolConfirmSentCallSlotCall::rule» : Returns pool_returns'.PoolConfirmSentCallSlotCall.rule.signature (λ 𝓤. pool_returns'.PoolConfirmSentCallSlotCall.rule.spec) (tie_t (in_world program) pool_returns.PoolConfirmSentCallSlotCall.rule.Symbol.name)
«pool_returns::PoolConfirmSentCallSlotCall::rule» = everywhere.«pool_returns::PoolConfirmSentCallSlotCall::rule» (tie_t (in_world program)) (in_program (in_world program) pool_returns.PoolConfirmSentCallSlotCall.rule.Symbol.code has-pool_returns-PoolConfirmSentCallSlotCall-rule)

pub «pool_returns::PoolConfirmSentCallSlotCall::absent» : Returns pool_returns'.PoolConfirmSentCallSlotCall.absent.signature (λ 𝓤. pool_returns'.PoolConfirmSentCallSlotCall.absent.spec) (tie_t (in_world program) pool_returns.PoolConfirmSentCallSlotCall.absent.Symbol.name)
«pool_returns::PoolConfirmSentCallSlotCall::absent» = everywhere.«pool_returns::PoolConfirmSentCallSlotCall::absent» (tie_t (in_world program)) (in_program (in_world program) pool_returns.PoolConfirmSentCallSlotCall.absent.Symbol.code has-pool_returns-PoolConfirmSentCallSlotCall-absent)

pub «pool_returns::PoolConfirmSentCallSlotCall::at» : Returns pool_returns'.PoolConfirmSentCallSlotCall.at.signature (λ 𝓤. pool_returns'.PoolConfirmSentCallSlotCall.at.spec) (tie_t (in_world program) pool_returns.PoolConfirmSentCallSlotCall.at.Symbol.name)
«pool_returns::PoolConfirmSentCallSlotCall::at» = everywhere.«pool_returns::PoolConfirmSentCallSlotCall::at» (tie_t (in_world program)) (in_program (in_world program) pool_returns.PoolConfirmSentCallSlotCall.at.Symbol.code has-pool_returns-PoolConfirmSentCallSlotCall-at)

pub «pool_returns::PoolGrantEndCallSlotCall::rule» : Returns pool_returns'.PoolGrantEndCallSlotCall.rule.signature (λ 𝓤. pool_returns'.PoolGrantEndCallSlotCall.rule.spec) (tie_t (in_world program) pool_returns.PoolGrantEndCallSlotCall.rule.Symbol.name)
«pool_returns::PoolGrantEndCallSlotCall::rule» = everywhere.«pool_returns::PoolGrantEndCallSlotCall::rule» (tie_t (in_world program)) (in_program (in_world program) pool_returns.PoolGrantEndCallSlotCall.rule.Symbol.code has-pool_returns-PoolGrantEndCallSlotCall-rule)

pub «pool_returns::PoolGrantEndCallSlotCall::absent» : Returns pool_returns'.PoolGrantEndCallSlotCall.absent.signature (λ 𝓤. pool_returns'.PoolGrantEndCallSlotCall.absent.spec) (tie_t (in_world program) pool_returns.PoolGrantEndCallSlotCall.absent.Symbol.name)
«pool_returns::PoolGrantEndCallSlotCall::absent» = everywhere.«pool_returns::PoolGrantEndCallSlotCall::absent» (tie_t (in_world program)) (in_program (in_world program) pool_returns.PoolGrantEndCallSlotCall.absent.Symbol.code has-pool_returns-PoolGrantEndCallSlotCall-absent)

pub «pool_returns::PoolGrantEndCallSlotCall::at» : Returns pool_returns'.PoolGrantEndCallSlotCall.at.signature (λ 𝓤. pool_returns'.PoolGrantEndCallSlotCall.at.spec) (tie_t (in_world program) pool_returns.PoolGrantEndCallSlotCall.at.Symbol.name)
«pool_returns::PoolGrantEndCallSlotCall::at» = everywhere.«pool_returns::PoolGrantEndCallSlotCall::at» (tie_t (in_world program)) (in_program (in_world program) pool_returns.PoolGrantEndCallSlotCall.at.Symbol.code has-pool_returns-PoolGrantEndCallSlotCall-at)

pub «calls::run_call_in» : Returns calls'.run_call_in.signature (λ 𝓤. calls'.run_call_in.spec) (tie_t (in_world program) calls.run_call_in.Symbol.name)
«calls::run_call_in» = everywhere.«calls::run_call_in» (tie_t (in_world program)) (in_program (in_world program) calls.run_call_in.Symbol.code has-calls-run_call_in)

pub «calls::run_call» : Returns calls'.run_call.signature (λ 𝓤. calls'.run_call.spec) (tie_t (in_world program) calls.run_call.Symbol.name)
«calls::run_call» = everywhere.«calls::run_call» (tie_t (in_world program)) (in_program (in_world program) calls.run_call.Symbol.code has-calls-run_call)

pub «calls::CallAnswerClone::clone» : Returns calls'.CallAnswerClone.clone.signature (λ 𝓤. calls'.CallAnswerClone.clone.spec) (tie_t (in_world program) calls.CallAnswerClone.clone.Symbol.name)
«calls::CallAnswerClone::clone» = everywhere.«calls::CallAnswerClone::clone» (tie_t (in_world program)) (in_program (in_world program) calls.CallAnswerClone.clone.Symbol.code has-calls-CallAnswerClone-clone)

pub «calls::CallOutcomeClone::clone» : Returns calls'.CallOutcomeClone.clone.signature (λ 𝓤. calls'.CallOutcomeClone.clone.spec) (tie_t (in_world program) calls.CallOutcomeClone.clone.Symbol.name)
«calls::CallOutcomeClone::clone» = everywhere.«calls::CallOutcomeClone::clone» (tie_t (in_world program)) (in_program (in_world program) calls.CallOutcomeClone.clone.Symbol.code has-calls-CallOutcomeClone-clone)

pub «calls::CallLookClone::clone» : Returns calls'.CallLookClone.clone.signature (λ 𝓤. calls'.CallLookClone.clone.spec) (tie_t (in_world program) calls.CallLookClone.clone.Symbol.name)
«calls::CallLookClone::clone» = everywhere.«calls::CallLookClone::clone» (tie_t (in_world program)) (in_program (in_world program) calls.CallLookClone.clone.Symbol.code has-calls-CallLookClone-clone)

pub «limits::within» : Returns limits'.within.signature (λ 𝓤. limits'.within.spec) (tie_t (in_world program) limits.within.Symbol.name)
«limits::within» = everywhere.«limits::within» (tie_t (in_world program)) (in_program (in_world program) limits.within.Symbol.code has-limits-within)

pub «wire::byte_at» : Returns wire'.byte_at.signature (λ 𝓤. wire'.byte_at.spec) (tie_t (in_world program) wire.byte_at.Symbol.name)
«wire::byte_at» = everywhere.«wire::byte_at» (tie_t (in_world program)) (in_program (in_world program) wire.byte_at.Symbol.code has-wire-byte_at)

pub «wire::u16_at» : Returns wire'.u16_at.signature (λ 𝓤. wire'.u16_at.spec) (tie_t (in_world program) wire.u16_at.Symbol.name)
«wire::u16_at» = everywhere.«wire::u16_at» (tie_t (in_world program)) (in_program (in_world program) wire.u16_at.Symbol.code has-wire-u16_at)

pub «wire::low_byte» : Returns wire'.low_byte.signature (λ 𝓤. wire'.low_byte.spec) (tie_t (in_world program) wire.low_byte.Symbol.name)
«wire::low_byte» = everywhere.«wire::low_byte» (tie_t (in_world program)) (in_program (in_world program) wire.low_byte.Symbol.code has-wire-low_byte)

pub «wire::high_byte» : Returns wire'.high_byte.signature (λ 𝓤. wire'.high_byte.spec) (tie_t (in_world program) wire.high_byte.Symbol.name)
«wire::high_byte» = everywhere.«wire::high_byte» (tie_t (in_world program)) (in_program (in_world program) wire.high_byte.Symbol.code has-wire-high_byte)

pub «wire::put» : Returns wire'.put.signature (λ 𝓤. wire'.put.spec) (tie_t (in_world program) wire.put.Symbol.name)
«wire::put» = everywhere.«wire::put» (tie_t (in_world program)) (in_program (in_world program) wire.put.Symbol.code has-wire-put)

pub «peer_records::is_file» : Returns peer_records'.is_file.signature (λ 𝓤. peer_records'.is_file.spec) (tie_t (in_world program) peer_records.is_file.Symbol.name)
«peer_records::is_file» = everywhere.«peer_records::is_file» (tie_t (in_world program)) (in_program (in_world program) peer_records.is_file.Symbol.code has-peer_records-is_file)

pub «peer_records::records_fit» : Returns peer_records'.records_fit.signature (λ 𝓤. peer_records'.records_fit.spec) (tie_t (in_world program) peer_records.records_fit.Symbol.name)
«peer_records::records_fit» = everywhere.«peer_records::records_fit» (tie_t (in_world program)) (in_program (in_world program) peer_records.records_fit.Symbol.code has-peer_records-records_fit)

pub «peer_records::in_force» : Returns peer_records'.in_force.signature (λ 𝓤. peer_records'.in_force.spec) (tie_t (in_world program) peer_records.in_force.Symbol.name)
«peer_records::in_force» = everywhere.«peer_records::in_force» (tie_t (in_world program)) (in_program (in_world program) peer_records.in_force.Symbol.code has-peer_records-in_force)

pub «accept_recorded::poll_accept_recorded» : Returns accept_recorded'.poll_accept_recorded.signature (λ 𝓤. accept_recorded'.poll_accept_recorded.spec) (tie_t (in_world program) accept_recorded.poll_accept_recorded.Symbol.name)
«accept_recorded::poll_accept_recorded» = everywhere.«accept_recorded::poll_accept_recorded» (tie_t (in_world program)) (in_program (in_world program) accept_recorded.poll_accept_recorded.Symbol.code has-accept_recorded-poll_accept_recorded)

pub «accept_recorded::RecordedPeersPeerSet::contains» : Returns accept_recorded'.RecordedPeersPeerSet.contains.signature (λ 𝓤. accept_recorded'.RecordedPeersPeerSet.contains.spec) (tie_t (in_world program) accept_recorded.RecordedPeersPeerSet.contains.Symbol.name)
«accept_recorded::RecordedPeersPeerSet::contains» = everywhere.«accept_recorded::RecordedPeersPeerSet::contains» (tie_t (in_world program)) (in_program (in_world program) accept_recorded.RecordedPeersPeerSet.contains.Symbol.code has-accept_recorded-RecordedPeersPeerSet-contains)

pub «hci::HciEvent::of_form» : Returns hci'.HciEvent.of_form.signature (λ 𝓤. hci'.HciEvent.of_form.spec) (tie_t (in_world program) hci.HciEvent.of_form.Symbol.name)
«hci::HciEvent::of_form» = everywhere.«hci::HciEvent::of_form» (tie_t (in_world program)) (in_program (in_world program) hci.HciEvent.of_form.Symbol.code has-hci-HciEvent-of_form)

pub «hci_read::read» : Returns hci_read'.read.signature (λ 𝓤. hci_read'.read.spec) (tie_t (in_world program) hci_read.read.Symbol.name)
«hci_read::read» = everywhere.«hci_read::read» (tie_t (in_world program)) (in_program (in_world program) hci_read.read.Symbol.code has-hci_read-read)

pub «hci_write::write» : Returns hci_write'.write.signature (λ 𝓤. hci_write'.write.spec) (tie_t (in_world program) hci_write.write.Symbol.name)
«hci_write::write» = everywhere.«hci_write::write» (tie_t (in_world program)) (in_program (in_world program) hci_write.write.Symbol.code has-hci_write-write)

pub «completed_packets::pair_in» : Returns completed_packets'.pair_in.signature (λ 𝓤. completed_packets'.pair_in.spec) (tie_t (in_world program) completed_packets.pair_in.Symbol.name)
«completed_packets::pair_in» = everywhere.«completed_packets::pair_in» (tie_t (in_world program)) (in_program (in_world program) completed_packets.pair_in.Symbol.code has-completed_packets-pair_in)

pub «completed_packets::read» : Returns completed_packets'.read.signature (λ 𝓤. completed_packets'.read.spec) (tie_t (in_world program) completed_packets.read.Symbol.name)
«completed_packets::read» = everywhere.«completed_packets::read» (tie_t (in_world program)) (in_program (in_world program) completed_packets.read.Symbol.code has-completed_packets-read)

pub «completed_packets::pair_at» : Returns completed_packets'.pair_at.signature (λ 𝓤. completed_packets'.pair_at.spec) (tie_t (in_world program) completed_packets.pair_at.Symbol.name)
«completed_packets::pair_at» = everywhere.«completed_packets::pair_at» (tie_t (in_world program)) (in_program (in_world program) completed_packets.pair_at.Symbol.code has-completed_packets-pair_at)

pub «completed_packets_write::write» : Returns completed_packets_write'.write.signature (λ 𝓤. completed_packets_write'.write.spec) (tie_t (in_world program) completed_packets_write.write.Symbol.name)
«completed_packets_write::write» = everywhere.«completed_packets_write::write» (tie_t (in_world program)) (in_program (in_world program) completed_packets_write.write.Symbol.code has-completed_packets_write-write)

pub «completed_packets_write::write_columns» : Returns completed_packets_write'.write_columns.signature (λ 𝓤. completed_packets_write'.write_columns.spec) (tie_t (in_world program) completed_packets_write.write_columns.Symbol.name)
«completed_packets_write::write_columns» = everywhere.«completed_packets_write::write_columns» (tie_t (in_world program)) (in_program (in_world program) completed_packets_write.write_columns.Symbol.code has-completed_packets_write-write_columns)

pub «att_pdu::read» : Returns att_pdu'.read.signature (λ 𝓤. att_pdu'.read.spec) (tie_t (in_world program) att_pdu.read.Symbol.name)
«att_pdu::read» = everywhere.«att_pdu::read» (tie_t (in_world program)) (in_program (in_world program) att_pdu.read.Symbol.code has-att_pdu-read)

pub «att_pdu::indication_value» : Returns att_pdu'.indication_value.signature (λ 𝓤. att_pdu'.indication_value.spec) (tie_t (in_world program) att_pdu.indication_value.Symbol.name)
«att_pdu::indication_value» = everywhere.«att_pdu::indication_value» (tie_t (in_world program)) (in_program (in_world program) att_pdu.indication_value.Symbol.code has-att_pdu-indication_value)

pub «att_pdu_write::write» : Returns att_pdu_write'.write.signature (λ 𝓤. att_pdu_write'.write.spec) (tie_t (in_world program) att_pdu_write.write.Symbol.name)
«att_pdu_write::write» = everywhere.«att_pdu_write::write» (tie_t (in_world program)) (in_program (in_world program) att_pdu_write.write.Symbol.code has-att_pdu_write-write)

pub «att_pdu_write::write_handle_value_ind» : Returns att_pdu_write'.write_handle_value_ind.signature (λ 𝓤. att_pdu_write'.write_handle_value_ind.spec) (tie_t (in_world program) att_pdu_write.write_handle_value_ind.Symbol.name)
«att_pdu_write::write_handle_value_ind» = everywhere.«att_pdu_write::write_handle_value_ind» (tie_t (in_world program)) (in_program (in_world program) att_pdu_write.write_handle_value_ind.Symbol.code has-att_pdu_write-write_handle_value_ind)

pub «woken_set::WokenSet::new» : Returns woken_set'.WokenSet.new.signature (λ 𝓤. woken_set'.WokenSet.new.spec) (tie_t (in_world program) woken_set.WokenSet.new.Symbol.name)
«woken_set::WokenSet::new» = everywhere.«woken_set::WokenSet::new» (tie_t (in_world program)) (in_program (in_world program) woken_set.WokenSet.new.Symbol.code has-woken_set-WokenSet-new)

pub «woken_set::WokenSet::add» : Returns woken_set'.WokenSet.add.signature (λ 𝓤. woken_set'.WokenSet.add.spec) (tie_t (in_world program) woken_set.WokenSet.add.Symbol.name)
«woken_set::WokenSet::add» = everywhere.«woken_set::WokenSet::add» (tie_t (in_world program)) (in_program (in_world program) woken_set.WokenSet.add.Symbol.code has-woken_set-WokenSet-add)

pub «woken_set::WokenSet::join» : Returns woken_set'.WokenSet.join.signature (λ 𝓤. woken_set'.WokenSet.join.spec) (tie_t (in_world program) woken_set.WokenSet.join.Symbol.name)
«woken_set::WokenSet::join» = everywhere.«woken_set::WokenSet::join» (tie_t (in_world program)) (in_program (in_world program) woken_set.WokenSet.join.Symbol.code has-woken_set-WokenSet-join)

pub «host_event::received_event» : Returns host_event'.received_event.signature (λ 𝓤. host_event'.received_event.spec) (tie_t (in_world program) host_event.received_event.Symbol.name)
«host_event::received_event» = everywhere.«host_event::received_event» (tie_t (in_world program)) (in_program (in_world program) host_event.received_event.Symbol.code has-host_event-received_event)

pub «host_event::EventGivesFromCallUnit::from_call» : Returns host_event'.EventGivesFromCallUnit.from_call.signature (λ 𝓤. host_event'.EventGivesFromCallUnit.from_call.spec) (tie_t (in_world program) host_event.EventGivesFromCallUnit.from_call.Symbol.name)
«host_event::EventGivesFromCallUnit::from_call» = everywhere.«host_event::EventGivesFromCallUnit::from_call» (tie_t (in_world program)) (in_program (in_world program) host_event.EventGivesFromCallUnit.from_call.Symbol.code has-host_event-EventGivesFromCallUnit-from_call)

pub «host_pairs::received_pairs» : Returns host_pairs'.received_pairs.signature (λ 𝓤. host_pairs'.received_pairs.spec) (tie_t (in_world program) host_pairs.received_pairs.Symbol.name)
«host_pairs::received_pairs» = everywhere.«host_pairs::received_pairs» (tie_t (in_world program)) (in_program (in_world program) host_pairs.received_pairs.Symbol.code has-host_pairs-received_pairs)

pub «host::received» : Returns host'.received.signature (λ 𝓤. host'.received.spec) (tie_t (in_world program) host.received.Symbol.name)
«host::received» = everywhere.«host::received» (tie_t (in_world program)) (in_program (in_world program) host.received.Symbol.code has-host-received)

pub «host_att::received_att» : Returns host_att'.received_att.signature (λ 𝓤. host_att'.received_att.spec) (tie_t (in_world program) host_att.received_att.Symbol.name)
«host_att::received_att» = everywhere.«host_att::received_att» (tie_t (in_world program)) (in_program (in_world program) host_att.received_att.Symbol.code has-host_att-received_att)

pub «host_att::AttGivesFromCallU16::from_call» : Returns host_att'.AttGivesFromCallU16.from_call.signature (λ 𝓤. host_att'.AttGivesFromCallU16.from_call.spec) (tie_t (in_world program) host_att.AttGivesFromCallU16.from_call.Symbol.name)
«host_att::AttGivesFromCallU16::from_call» = everywhere.«host_att::AttGivesFromCallU16::from_call» (tie_t (in_world program)) (in_program (in_world program) host_att.AttGivesFromCallU16.from_call.Symbol.code has-host_att-AttGivesFromCallU16-from_call)

pub «host_att::AttGivesFromCallUnit::from_call» : Returns host_att'.AttGivesFromCallUnit.from_call.signature (λ 𝓤. host_att'.AttGivesFromCallUnit.from_call.spec) (tie_t (in_world program) host_att.AttGivesFromCallUnit.from_call.Symbol.name)
«host_att::AttGivesFromCallUnit::from_call» = everywhere.«host_att::AttGivesFromCallUnit::from_call» (tie_t (in_world program)) (in_program (in_world program) host_att.AttGivesFromCallUnit.from_call.Symbol.code has-host_att-AttGivesFromCallUnit-from_call)

pub «roster::roster» : Returns roster'.roster.signature (λ 𝓤. roster'.roster.spec) (tie_t (in_world program) roster.roster.Symbol.name)
«roster::roster» = everywhere.«roster::roster» (tie_t (in_world program)) (in_program (in_world program) roster.roster.Symbol.code has-roster-roster)

pub «big_endian::u64_at» : Returns big_endian'.u64_at.signature (λ 𝓤. big_endian'.u64_at.spec) (tie_t (in_world program) big_endian.u64_at.Symbol.name)
«big_endian::u64_at» = everywhere.«big_endian::u64_at» (tie_t (in_world program)) (in_program (in_world program) big_endian.u64_at.Symbol.code has-big_endian-u64_at)

pub «big_endian::u32_at» : Returns big_endian'.u32_at.signature (λ 𝓤. big_endian'.u32_at.spec) (tie_t (in_world program) big_endian.u32_at.Symbol.name)
«big_endian::u32_at» = everywhere.«big_endian::u32_at» (tie_t (in_world program)) (in_program (in_world program) big_endian.u32_at.Symbol.code has-big_endian-u32_at)

pub «big_endian_write::put_number» : Returns big_endian_write'.put_number.signature (λ 𝓤. big_endian_write'.put_number.spec) (tie_t (in_world program) big_endian_write.put_number.Symbol.name)
«big_endian_write::put_number» = everywhere.«big_endian_write::put_number» (tie_t (in_world program)) (in_program (in_world program) big_endian_write.put_number.Symbol.code has-big_endian_write-put_number)

pub «big_endian_write::put_bytes» : Returns big_endian_write'.put_bytes.signature (λ 𝓤. big_endian_write'.put_bytes.spec) (tie_t (in_world program) big_endian_write.put_bytes.Symbol.name)
«big_endian_write::put_bytes» = everywhere.«big_endian_write::put_bytes» (tie_t (in_world program)) (in_program (in_world program) big_endian_write.put_bytes.Symbol.code has-big_endian_write-put_bytes)

pub «btsnoop_read::is_header» : Returns btsnoop_read'.is_header.signature (λ 𝓤. btsnoop_read'.is_header.spec) (tie_t (in_world program) btsnoop_read.is_header.Symbol.name)
«btsnoop_read::is_header» = everywhere.«btsnoop_read::is_header» (tie_t (in_world program)) (in_program (in_world program) btsnoop_read.is_header.Symbol.code has-btsnoop_read-is_header)

pub «btsnoop_read::is_whole» : Returns btsnoop_read'.is_whole.signature (λ 𝓤. btsnoop_read'.is_whole.spec) (tie_t (in_world program) btsnoop_read.is_whole.Symbol.name)
«btsnoop_read::is_whole» = everywhere.«btsnoop_read::is_whole» (tie_t (in_world program)) (in_program (in_world program) btsnoop_read.is_whole.Symbol.code has-btsnoop_read-is_whole)

pub «btsnoop_read::head_at» : Returns btsnoop_read'.head_at.signature (λ 𝓤. btsnoop_read'.head_at.spec) (tie_t (in_world program) btsnoop_read.head_at.Symbol.name)
«btsnoop_read::head_at» = everywhere.«btsnoop_read::head_at» (tie_t (in_world program)) (in_program (in_world program) btsnoop_read.head_at.Symbol.code has-btsnoop_read-head_at)

pub «btsnoop_read::record_at» : Returns btsnoop_read'.record_at.signature (λ 𝓤. btsnoop_read'.record_at.spec) (tie_t (in_world program) btsnoop_read.record_at.Symbol.name)
«btsnoop_read::record_at» = everywhere.«btsnoop_read::record_at» (tie_t (in_world program)) (in_program (in_world program) btsnoop_read.record_at.Symbol.code has-btsnoop_read-record_at)

pub «btsnoop_put::put_header» : Returns btsnoop_put'.put_header.signature (λ 𝓤. btsnoop_put'.put_header.spec) (tie_t (in_world program) btsnoop_put.put_header.Symbol.name)
«btsnoop_put::put_header» = everywhere.«btsnoop_put::put_header» (tie_t (in_world program)) (in_program (in_world program) btsnoop_put.put_header.Symbol.code has-btsnoop_put-put_header)

pub «btsnoop_put::put_record» : Returns btsnoop_put'.put_record.signature (λ 𝓤. btsnoop_put'.put_record.spec) (tie_t (in_world program) btsnoop_put.put_record.Symbol.name)
«btsnoop_put::put_record» = everywhere.«btsnoop_put::put_record» (tie_t (in_world program)) (in_program (in_world program) btsnoop_put.put_record.Symbol.code has-btsnoop_put-put_record)

pub «btsnoop_write::is_read» : Returns btsnoop_write'.is_read.signature (λ 𝓤. btsnoop_write'.is_read.spec) (tie_t (in_world program) btsnoop_write.is_read.Symbol.name)
«btsnoop_write::is_read» = everywhere.«btsnoop_write::is_read» (tie_t (in_world program)) (in_program (in_world program) btsnoop_write.is_read.Symbol.code has-btsnoop_write-is_read)

pub «btsnoop_write::write» : Returns btsnoop_write'.write.signature (λ 𝓤. btsnoop_write'.write.spec) (tie_t (in_world program) btsnoop_write.write.Symbol.name)
«btsnoop_write::write» = everywhere.«btsnoop_write::write» (tie_t (in_world program)) (in_program (in_world program) btsnoop_write.write.Symbol.code has-btsnoop_write-write)

pub «btsnoop_write::write_columns» : Returns btsnoop_write'.write_columns.signature (λ 𝓤. btsnoop_write'.write_columns.spec) (tie_t (in_world program) btsnoop_write.write_columns.Symbol.name)
«btsnoop_write::write_columns» = everywhere.«btsnoop_write::write_columns» (tie_t (in_world program)) (in_program (in_world program) btsnoop_write.write_columns.Symbol.code has-btsnoop_write-write_columns)

pub «btsnoop_measure::measure_all» : Returns btsnoop_measure'.measure_all.signature (λ 𝓤. btsnoop_measure'.measure_all.spec) (tie_t (in_world program) btsnoop_measure.measure_all.Symbol.name)
«btsnoop_measure::measure_all» = everywhere.«btsnoop_measure::measure_all» (tie_t (in_world program)) (in_program (in_world program) btsnoop_measure.measure_all.Symbol.code has-btsnoop_measure-measure_all)

pub «to_columns::to_columns» : Returns to_columns'.to_columns.signature (λ 𝓤. to_columns'.to_columns.spec) (tie_t (in_world program) to_columns.to_columns.Symbol.name)
«to_columns::to_columns» = everywhere.«to_columns::to_columns» (tie_t (in_world program)) (in_program (in_world program) to_columns.to_columns.Symbol.code has-to_columns-to_columns)

pub «from_columns::from_columns» : Returns from_columns'.from_columns.signature (λ 𝓤. from_columns'.from_columns.spec) (tie_t (in_world program) from_columns.from_columns.Symbol.name)
«from_columns::from_columns» = everywhere.«from_columns::from_columns» (tie_t (in_world program)) (in_program (in_world program) from_columns.from_columns.Symbol.code has-from_columns-from_columns)

pub «host_record::received_record» : Returns host_record'.received_record.signature (λ 𝓤. host_record'.received_record.spec) (tie_t (in_world program) host_record.received_record.Symbol.name)
«host_record::received_record» = everywhere.«host_record::received_record» (tie_t (in_world program)) (in_program (in_world program) host_record.received_record.Symbol.code has-host_record-received_record)

pub «host_recording::replay_recording» : Returns host_recording'.replay_recording.signature (λ 𝓤. host_recording'.replay_recording.spec) (tie_t (in_world program) host_recording.replay_recording.Symbol.name)
«host_recording::replay_recording» = everywhere.«host_recording::replay_recording» (tie_t (in_world program)) (in_program (in_world program) host_recording.replay_recording.Symbol.code has-host_recording-replay_recording)

pub «text::put» : Returns text'.put.signature (λ 𝓤. text'.put.spec) (tie_t (in_world program) text.put.Symbol.name)
«text::put» = everywhere.«text::put» (tie_t (in_world program)) (in_program (in_world program) text.put.Symbol.code has-text-put)

pub «text::put_all» : Returns text'.put_all.signature (λ 𝓤. text'.put_all.spec) (tie_t (in_world program) text.put_all.Symbol.name)
«text::put_all» = everywhere.«text::put_all» (tie_t (in_world program)) (in_program (in_world program) text.put_all.Symbol.code has-text-put_all)

pub «text::put_hex» : Returns text'.put_hex.signature (λ 𝓤. text'.put_hex.spec) (tie_t (in_world program) text.put_hex.Symbol.name)
«text::put_hex» = everywhere.«text::put_hex» (tie_t (in_world program)) (in_program (in_world program) text.put_hex.Symbol.code has-text-put_hex)

pub «text_read::number_at» : Returns text_read'.number_at.signature (λ 𝓤. text_read'.number_at.spec) (tie_t (in_world program) text_read.number_at.Symbol.name)
«text_read::number_at» = everywhere.«text_read::number_at» (tie_t (in_world program)) (in_program (in_world program) text_read.number_at.Symbol.code has-text_read-number_at)

pub «text_read::bytes_at» : Returns text_read'.bytes_at.signature (λ 𝓤. text_read'.bytes_at.spec) (tie_t (in_world program) text_read.bytes_at.Symbol.name)
«text_read::bytes_at» = everywhere.«text_read::bytes_at» (tie_t (in_world program)) (in_program (in_world program) text_read.bytes_at.Symbol.code has-text_read-bytes_at)

pub «number_text::put_number» : Returns number_text'.put_number.signature (λ 𝓤. number_text'.put_number.spec) (tie_t (in_world program) number_text.put_number.Symbol.name)
«number_text::put_number» = everywhere.«number_text::put_number» (tie_t (in_world program)) (in_program (in_world program) number_text.put_number.Symbol.code has-number_text-put_number)

pub «number_text::put_behind» : Returns number_text'.put_behind.signature (λ 𝓤. number_text'.put_behind.spec) (tie_t (in_world program) number_text.put_behind.Symbol.name)
«number_text::put_behind» = everywhere.«number_text::put_behind» (tie_t (in_world program)) (in_program (in_world program) number_text.put_behind.Symbol.code has-number_text-put_behind)

pub «number_text::put_numbers» : Returns number_text'.put_numbers.signature (λ 𝓤. number_text'.put_numbers.spec) (tie_t (in_world program) number_text.put_numbers.Symbol.name)
«number_text::put_numbers» = everywhere.«number_text::put_numbers» (tie_t (in_world program)) (in_program (in_world program) number_text.put_numbers.Symbol.code has-number_text-put_numbers)

pub «number_text::bit» : Returns number_text'.bit.signature (λ 𝓤. number_text'.bit.spec) (tie_t (in_world program) number_text.bit.Symbol.name)
«number_text::bit» = everywhere.«number_text::bit» (tie_t (in_world program)) (in_program (in_world program) number_text.bit.Symbol.code has-number_text-bit)

pub «number_text::put_flag» : Returns number_text'.put_flag.signature (λ 𝓤. number_text'.put_flag.spec) (tie_t (in_world program) number_text.put_flag.Symbol.name)
«number_text::put_flag» = everywhere.«number_text::put_flag» (tie_t (in_world program)) (in_program (in_world program) number_text.put_flag.Symbol.code has-number_text-put_flag)

pub «woken_text::put_woken» : Returns woken_text'.put_woken.signature (λ 𝓤. woken_text'.put_woken.spec) (tie_t (in_world program) woken_text.put_woken.Symbol.name)
«woken_text::put_woken» = everywhere.«woken_text::put_woken» (tie_t (in_world program)) (in_program (in_world program) woken_text.put_woken.Symbol.code has-woken_text-put_woken)

pub «event_text::put_event» : Returns event_text'.put_event.signature (λ 𝓤. event_text'.put_event.spec) (tie_t (in_world program) event_text.put_event.Symbol.name)
«event_text::put_event» = everywhere.«event_text::put_event» (tie_t (in_world program)) (in_program (in_world program) event_text.put_event.Symbol.code has-event_text-put_event)

pub «event_text::put_queue» : Returns event_text'.put_queue.signature (λ 𝓤. event_text'.put_queue.spec) (tie_t (in_world program) event_text.put_queue.Symbol.name)
«event_text::put_queue» = everywhere.«event_text::put_queue» (tie_t (in_world program)) (in_program (in_world program) event_text.put_queue.Symbol.code has-event_text-put_queue)

pub «slot_text::put_slot» : Returns slot_text'.put_slot.signature (λ 𝓤. slot_text'.put_slot.spec) (tie_t (in_world program) slot_text.put_slot.Symbol.name)
«slot_text::put_slot» = everywhere.«slot_text::put_slot» (tie_t (in_world program)) (in_program (in_world program) slot_text.put_slot.Symbol.code has-slot_text-put_slot)

pub «table_text::put_table» : Returns table_text'.put_table.signature (λ 𝓤. table_text'.put_table.spec) (tie_t (in_world program) table_text.put_table.Symbol.name)
«table_text::put_table» = everywhere.«table_text::put_table» (tie_t (in_world program)) (in_program (in_world program) table_text.put_table.Symbol.code has-table_text-put_table)

-- so what crates/isolation says of the histories of calls holds in this program
pub has_code : HasCode (tie_t (in_world program))
has_code = (
  in_program (in_world program) table.new.Symbol.code has-table-new,
  in_program (in_world program) calls.run_call.Symbol.code has-calls-run_call,
)

-- and what crates/host_machine says of received bytes
pub has_received : Wired (tie_t (in_world program)) host.received.Symbol.code
has_received = in_program (in_world program) host.received.Symbol.code has-host-received

pub has_received_att : Wired (tie_t (in_world program)) host_att.received_att.Symbol.code
has_received_att = in_program (in_world program) host_att.received_att.Symbol.code has-host_att-received_att
