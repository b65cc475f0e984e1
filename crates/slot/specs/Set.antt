-- A slot, or a table, with one field changed. Made by tools/setters. Assumes nothing.
use Rattle.std.specs.Prelude.{ℕ, Bool, List, Option}
use Rattle.slot.specs.declared.Address.{Address}
use Rattle.slot.specs.declared.ConnParams.{ConnParams}
use Rattle.slot.specs.declared.ConnectionManager.{ConnectionManager}
use Rattle.state.specs.declared.ConnectionState.{ConnectionState}
use Rattle.slot.specs.declared.ConnectionStorage.{ConnectionStorage}
use Rattle.event_queue.specs.declared.EventQueue.{EventQueue}
use Rattle.slot.specs.declared.LeConnRole.{LeConnRole}
use Rattle.pool.specs.declared.Pool.{Pool}
use Rattle.slot.specs.declared.SubratingParams.{SubratingParams}

abbrev pub set_state : ConnectionStorage → ConnectionState → ConnectionStorage
set_state r v =
    record {
      state = v;
      handle = r.handle;
      life = r.life;
      role = r.role;
      peer_identity = r.peer_identity;
      params = r.params;
      subrating_params = r.subrating_params;
      att_mtu = r.att_mtu;
      link_credits = r.link_credits;
      acl_send_locked = r.acl_send_locked;
      refcount = r.refcount;
      blocked_sends = r.blocked_sends;
      lost = r.lost;
      pool_held = r.pool_held;
      indication_in_flight = r.indication_in_flight;
      indication_cfm_received = r.indication_cfm_received;
      events = r.events;
    }

abbrev pub set_handle : ConnectionStorage → ℕ → ConnectionStorage
set_handle r v =
    record {
      state = r.state;
      handle = v;
      life = r.life;
      role = r.role;
      peer_identity = r.peer_identity;
      params = r.params;
      subrating_params = r.subrating_params;
      att_mtu = r.att_mtu;
      link_credits = r.link_credits;
      acl_send_locked = r.acl_send_locked;
      refcount = r.refcount;
      blocked_sends = r.blocked_sends;
      lost = r.lost;
      pool_held = r.pool_held;
      indication_in_flight = r.indication_in_flight;
      indication_cfm_received = r.indication_cfm_received;
      events = r.events;
    }

abbrev pub set_life : ConnectionStorage → ℕ → ConnectionStorage
set_life r v =
    record {
      state = r.state;
      handle = r.handle;
      life = v;
      role = r.role;
      peer_identity = r.peer_identity;
      params = r.params;
      subrating_params = r.subrating_params;
      att_mtu = r.att_mtu;
      link_credits = r.link_credits;
      acl_send_locked = r.acl_send_locked;
      refcount = r.refcount;
      blocked_sends = r.blocked_sends;
      lost = r.lost;
      pool_held = r.pool_held;
      indication_in_flight = r.indication_in_flight;
      indication_cfm_received = r.indication_cfm_received;
      events = r.events;
    }

abbrev pub set_role : ConnectionStorage → LeConnRole → ConnectionStorage
set_role r v =
    record {
      state = r.state;
      handle = r.handle;
      life = r.life;
      role = v;
      peer_identity = r.peer_identity;
      params = r.params;
      subrating_params = r.subrating_params;
      att_mtu = r.att_mtu;
      link_credits = r.link_credits;
      acl_send_locked = r.acl_send_locked;
      refcount = r.refcount;
      blocked_sends = r.blocked_sends;
      lost = r.lost;
      pool_held = r.pool_held;
      indication_in_flight = r.indication_in_flight;
      indication_cfm_received = r.indication_cfm_received;
      events = r.events;
    }

abbrev pub set_peer_identity : ConnectionStorage → Address → ConnectionStorage
set_peer_identity r v =
    record {
      state = r.state;
      handle = r.handle;
      life = r.life;
      role = r.role;
      peer_identity = v;
      params = r.params;
      subrating_params = r.subrating_params;
      att_mtu = r.att_mtu;
      link_credits = r.link_credits;
      acl_send_locked = r.acl_send_locked;
      refcount = r.refcount;
      blocked_sends = r.blocked_sends;
      lost = r.lost;
      pool_held = r.pool_held;
      indication_in_flight = r.indication_in_flight;
      indication_cfm_received = r.indication_cfm_received;
      events = r.events;
    }

abbrev pub set_params : ConnectionStorage → ConnParams → ConnectionStorage
set_params r v =
    record {
      state = r.state;
      handle = r.handle;
      life = r.life;
      role = r.role;
      peer_identity = r.peer_identity;
      params = v;
      subrating_params = r.subrating_params;
      att_mtu = r.att_mtu;
      link_credits = r.link_credits;
      acl_send_locked = r.acl_send_locked;
      refcount = r.refcount;
      blocked_sends = r.blocked_sends;
      lost = r.lost;
      pool_held = r.pool_held;
      indication_in_flight = r.indication_in_flight;
      indication_cfm_received = r.indication_cfm_received;
      events = r.events;
    }

abbrev pub set_subrating_params : ConnectionStorage → Option SubratingParams → ConnectionStorage
set_subrating_params r v =
    record {
      state = r.state;
      handle = r.handle;
      life = r.life;
      role = r.role;
      peer_identity = r.peer_identity;
      params = r.params;
      subrating_params = v;
      att_mtu = r.att_mtu;
      link_credits = r.link_credits;
      acl_send_locked = r.acl_send_locked;
      refcount = r.refcount;
      blocked_sends = r.blocked_sends;
      lost = r.lost;
      pool_held = r.pool_held;
      indication_in_flight = r.indication_in_flight;
      indication_cfm_received = r.indication_cfm_received;
      events = r.events;
    }

abbrev pub set_att_mtu : ConnectionStorage → ℕ → ConnectionStorage
set_att_mtu r v =
    record {
      state = r.state;
      handle = r.handle;
      life = r.life;
      role = r.role;
      peer_identity = r.peer_identity;
      params = r.params;
      subrating_params = r.subrating_params;
      att_mtu = v;
      link_credits = r.link_credits;
      acl_send_locked = r.acl_send_locked;
      refcount = r.refcount;
      blocked_sends = r.blocked_sends;
      lost = r.lost;
      pool_held = r.pool_held;
      indication_in_flight = r.indication_in_flight;
      indication_cfm_received = r.indication_cfm_received;
      events = r.events;
    }

abbrev pub set_link_credits : ConnectionStorage → ℕ → ConnectionStorage
set_link_credits r v =
    record {
      state = r.state;
      handle = r.handle;
      life = r.life;
      role = r.role;
      peer_identity = r.peer_identity;
      params = r.params;
      subrating_params = r.subrating_params;
      att_mtu = r.att_mtu;
      link_credits = v;
      acl_send_locked = r.acl_send_locked;
      refcount = r.refcount;
      blocked_sends = r.blocked_sends;
      lost = r.lost;
      pool_held = r.pool_held;
      indication_in_flight = r.indication_in_flight;
      indication_cfm_received = r.indication_cfm_received;
      events = r.events;
    }

abbrev pub set_acl_send_locked : ConnectionStorage → Bool → ConnectionStorage
set_acl_send_locked r v =
    record {
      state = r.state;
      handle = r.handle;
      life = r.life;
      role = r.role;
      peer_identity = r.peer_identity;
      params = r.params;
      subrating_params = r.subrating_params;
      att_mtu = r.att_mtu;
      link_credits = r.link_credits;
      acl_send_locked = v;
      refcount = r.refcount;
      blocked_sends = r.blocked_sends;
      lost = r.lost;
      pool_held = r.pool_held;
      indication_in_flight = r.indication_in_flight;
      indication_cfm_received = r.indication_cfm_received;
      events = r.events;
    }

abbrev pub set_refcount : ConnectionStorage → ℕ → ConnectionStorage
set_refcount r v =
    record {
      state = r.state;
      handle = r.handle;
      life = r.life;
      role = r.role;
      peer_identity = r.peer_identity;
      params = r.params;
      subrating_params = r.subrating_params;
      att_mtu = r.att_mtu;
      link_credits = r.link_credits;
      acl_send_locked = r.acl_send_locked;
      refcount = v;
      blocked_sends = r.blocked_sends;
      lost = r.lost;
      pool_held = r.pool_held;
      indication_in_flight = r.indication_in_flight;
      indication_cfm_received = r.indication_cfm_received;
      events = r.events;
    }

abbrev pub set_blocked_sends : ConnectionStorage → ℕ → ConnectionStorage
set_blocked_sends r v =
    record {
      state = r.state;
      handle = r.handle;
      life = r.life;
      role = r.role;
      peer_identity = r.peer_identity;
      params = r.params;
      subrating_params = r.subrating_params;
      att_mtu = r.att_mtu;
      link_credits = r.link_credits;
      acl_send_locked = r.acl_send_locked;
      refcount = r.refcount;
      blocked_sends = v;
      lost = r.lost;
      pool_held = r.pool_held;
      indication_in_flight = r.indication_in_flight;
      indication_cfm_received = r.indication_cfm_received;
      events = r.events;
    }

abbrev pub set_lost : ConnectionStorage → ℕ → ConnectionStorage
set_lost r v =
    record {
      state = r.state;
      handle = r.handle;
      life = r.life;
      role = r.role;
      peer_identity = r.peer_identity;
      params = r.params;
      subrating_params = r.subrating_params;
      att_mtu = r.att_mtu;
      link_credits = r.link_credits;
      acl_send_locked = r.acl_send_locked;
      refcount = r.refcount;
      blocked_sends = r.blocked_sends;
      lost = v;
      pool_held = r.pool_held;
      indication_in_flight = r.indication_in_flight;
      indication_cfm_received = r.indication_cfm_received;
      events = r.events;
    }

abbrev pub set_pool_held : ConnectionStorage → ℕ → ConnectionStorage
set_pool_held r v =
    record {
      state = r.state;
      handle = r.handle;
      life = r.life;
      role = r.role;
      peer_identity = r.peer_identity;
      params = r.params;
      subrating_params = r.subrating_params;
      att_mtu = r.att_mtu;
      link_credits = r.link_credits;
      acl_send_locked = r.acl_send_locked;
      refcount = r.refcount;
      blocked_sends = r.blocked_sends;
      lost = r.lost;
      pool_held = v;
      indication_in_flight = r.indication_in_flight;
      indication_cfm_received = r.indication_cfm_received;
      events = r.events;
    }

abbrev pub set_indication_in_flight : ConnectionStorage → Bool → ConnectionStorage
set_indication_in_flight r v =
    record {
      state = r.state;
      handle = r.handle;
      life = r.life;
      role = r.role;
      peer_identity = r.peer_identity;
      params = r.params;
      subrating_params = r.subrating_params;
      att_mtu = r.att_mtu;
      link_credits = r.link_credits;
      acl_send_locked = r.acl_send_locked;
      refcount = r.refcount;
      blocked_sends = r.blocked_sends;
      lost = r.lost;
      pool_held = r.pool_held;
      indication_in_flight = v;
      indication_cfm_received = r.indication_cfm_received;
      events = r.events;
    }

abbrev pub set_indication_cfm_received : ConnectionStorage → Bool → ConnectionStorage
set_indication_cfm_received r v =
    record {
      state = r.state;
      handle = r.handle;
      life = r.life;
      role = r.role;
      peer_identity = r.peer_identity;
      params = r.params;
      subrating_params = r.subrating_params;
      att_mtu = r.att_mtu;
      link_credits = r.link_credits;
      acl_send_locked = r.acl_send_locked;
      refcount = r.refcount;
      blocked_sends = r.blocked_sends;
      lost = r.lost;
      pool_held = r.pool_held;
      indication_in_flight = r.indication_in_flight;
      indication_cfm_received = v;
      events = r.events;
    }

abbrev pub set_events : ConnectionStorage → EventQueue → ConnectionStorage
set_events r v =
    record {
      state = r.state;
      handle = r.handle;
      life = r.life;
      role = r.role;
      peer_identity = r.peer_identity;
      params = r.params;
      subrating_params = r.subrating_params;
      att_mtu = r.att_mtu;
      link_credits = r.link_credits;
      acl_send_locked = r.acl_send_locked;
      refcount = r.refcount;
      blocked_sends = r.blocked_sends;
      lost = r.lost;
      pool_held = r.pool_held;
      indication_in_flight = r.indication_in_flight;
      indication_cfm_received = r.indication_cfm_received;
      events = v;
    }

abbrev pub set_connections : ConnectionManager → List ConnectionStorage → ConnectionManager
set_connections r v =
    record {
      connections = v;
      count = r.count;
      default_link_credits = r.default_link_credits;
      default_att_mtu = r.default_att_mtu;
      pool = r.pool;
    }

abbrev pub set_count : ConnectionManager → ℕ → ConnectionManager
set_count r v =
    record {
      connections = r.connections;
      count = v;
      default_link_credits = r.default_link_credits;
      default_att_mtu = r.default_att_mtu;
      pool = r.pool;
    }

abbrev pub set_default_link_credits : ConnectionManager → ℕ → ConnectionManager
set_default_link_credits r v =
    record {
      connections = r.connections;
      count = r.count;
      default_link_credits = v;
      default_att_mtu = r.default_att_mtu;
      pool = r.pool;
    }

abbrev pub set_default_att_mtu : ConnectionManager → ℕ → ConnectionManager
set_default_att_mtu r v =
    record {
      connections = r.connections;
      count = r.count;
      default_link_credits = r.default_link_credits;
      default_att_mtu = v;
      pool = r.pool;
    }

abbrev pub set_pool : ConnectionManager → Pool → ConnectionManager
set_pool r v =
    record {
      connections = r.connections;
      count = r.count;
      default_link_credits = r.default_link_credits;
      default_att_mtu = r.default_att_mtu;
      pool = v;
    }
