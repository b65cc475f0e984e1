-- What every call on a link, and the end of a grant of the pool, moves between the pool and its slot. Assumes nothing.
use Rattle.std.specs.Prelude.{ℕ, zero, suc, ◌+◌, ◌-◌, ◌^◌, ◌<◌, ◌≤◌, ◌≡◌, refl, ◌≢◌, Bool, true, false, cond, List, [], ◌∷◌, get_or, set, length, eqb, leb, ltb}
use Rattle.std.proofs.Common.{sym, ap, ap₂, ◌∙◌, arith, get_or-set_same, get_or-set_other, eqb-true, leb-true}
use Rattle.std.proofs.lemmas.Bool.{false≢true, eqb-false}
use Rattle.state.specs.declared.DisconnectReason.{DisconnectReason}
use Rattle.state.specs.declared.DisconnectReason.TheVariants.{RemoteUserTerminatedConn}
use Rattle.event_queue.specs.declared.ConnectionEvent.{ConnectionEvent}
use Rattle.event_queue.specs.declared.ConnectionEvent.TheVariants as event
use Rattle.state.specs.State.{is_live, is_connected, is_requesting, is_open}
use Rattle.slot.specs.Set.{set_refcount}
use Rattle.slot.specs.declared.ConnectionStorage.{ConnectionStorage}
use Rattle.slot.specs.Fresh.{blank_slot}
use Rattle.slot.specs.declared.Address.{Address}
use Rattle.slot.specs.declared.LeConnRole.{LeConnRole}
use Rattle.slot.specs.declared.ConnParams.{ConnParams}
use Rattle.turn.specs.Turn.{next_waiting}
use Rattle.pool.specs.declared.Pool.{Pool}
use Rattle.pool.specs.Pool.{joined, may_draw}
use Rattle.pool.specs.declared.Share.{Share}
use Rattle.pool.specs.declared.Share.TheVariants.{Untouched, Waits, Draws, GivesBack, Closes}
use Rattle.model.specs.Answer.{Local, accept}
use Rattle.model.specs.Find.{held_by}
use Rattle.model.proofs.Laws.{either, split, and_right}
use Rattle.model.specs.Link.{Op, get_connected_handle, inc_ref, dec_ref, request_disconnect, request_handle_disconnect, withdraw_disconnect, confirm, disconnected, post_handle_event, next, poll_acquire_acl_send_lock, unlock_acl_send, poll_request_to_send, grant_end, confirm_sent, has_link_credits, exchange_att_mtu, get_att_mtu_handle, negotiate_att_mtu, get_stored_att_mtu, acquire_indication_slot, release_indication_slot, signal_indication_confirmation, wait_indication_confirmation, closing, local, stale, in_life, where_live, stored, raised_ref, requested}
use Rattle.model.specs.Calls.{accepted_at, connected_at, is_last_life, drawn_if, asked_if, asked_at, returned_at, pool_ended_at}
use Rattle.model.proofs.Pooled.{Moved, PoolMoved, pooled, by_closing, returned_moved}

pub link_moved : (op : Op) (d i f : ℕ) (s : ConnectionStorage)
    → Moved (local op d i s).share f s.pool_held (local op d i s).slot.pool_held
link_moved op d i f s = let k = pooled op d i s in by_closing (closing op) _ f _ _ k.share k.held

pub ended_moved : (v k : ℕ) (s : ConnectionStorage) (p : Pool) → PoolMoved s p (pool_ended_at v k s)
ended_moved v k s p =
    either (PoolMoved s p) (eqb v s.life) _ _ (either (PoolMoved s p) (is_live s.state) _ _ (returned_moved k s p) refl) refl
