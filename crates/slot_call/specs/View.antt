-- What a call may read of the table beside its slot. Assumes nothing.
use Rattle.slot.specs.declared.ConnectionManager.{ConnectionManager}
use Rattle.slot_call.specs.declared.TableView.{TableView}

abbrev pub view_of : ConnectionManager → TableView
view_of t = record { default_link_credits = t.default_link_credits; default_att_mtu = t.default_att_mtu; pool = t.pool }
