-- The fresh slot, and what lies past the last slot. Assumes nothing.
use Rattle.std.specs.Prelude.{false, [], None}
use Rattle.state.specs.declared.ConnectionState.TheVariants.{Disconnected}
use Rattle.slot.specs.declared.LeConnRole.TheVariants.{Central}
use Rattle.event_queue.specs.declared.EventQueue.{EventQueue}
use Rattle.slot.specs.declared.ConnectionStorage.{ConnectionStorage}
use Rattle.event_queue.specs.Queue.{empty_queue}

abbrev slot_with : EventQueue → ConnectionStorage
slot_with q =
    record {
      state = Disconnected;
      handle = 0;
      life = 0;
      role = Central;
      peer_identity = record { kind = 0; addr = record { 0 = 0; 1 = 0; 2 = 0; 3 = 0; 4 = 0; 5 = 0 } };
      params = record { conn_interval = 0; peripheral_latency = 0; supervision_timeout = 0 };
      subrating_params = None;
      att_mtu = 0;
      link_credits = 0;
      acl_send_locked = false;
      refcount = 0;
      blocked_sends = 0;
      lost = 0;
      pool_held = 0;
      indication_in_flight = false;
      indication_cfm_received = false;
      events = q;
    }

-- the slot of `ConnectionStorage::new`
abbrev pub fresh_slot : ConnectionStorage
fresh_slot = slot_with empty_queue

-- what a read past the end of the list of slots gives. No call reads there.
abbrev pub blank_slot : ConnectionStorage
blank_slot = slot_with (record { entries = []; len = 0 })
