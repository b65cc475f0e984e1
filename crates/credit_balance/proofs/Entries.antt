-- What each call on a link does to its slot's credits. Assumes nothing.
use Rattle.std.specs.Prelude.{ℕ, ◌+◌, ◌-◌, ◌^◌, ◌≡◌, refl, List, [], ◌∷◌, eqb, leb, ltb}
use Rattle.std.proofs.Common.{arith, leb-true}
use Rattle.state.specs.declared.DisconnectReason.{DisconnectReason}
use Rattle.state.specs.declared.DisconnectReason.TheVariants.{RemoteUserTerminatedConn}
use Rattle.state.specs.State.{is_live, is_connected, is_requesting, is_open}
use Rattle.event_queue.specs.declared.ConnectionEvent.{ConnectionEvent}
use Rattle.event_queue.specs.declared.ConnectionEvent.TheVariants as event
use Rattle.slot.specs.declared.ConnectionStorage.{ConnectionStorage}
use Rattle.slot.specs.Set.{set_refcount}
use Rattle.model.specs.Answer.{Local, accept}
use Rattle.model.proofs.Laws.{split, either}
use Rattle.model.specs.Link.{Op, get_connected_handle, inc_ref, dec_ref, request_disconnect, request_handle_disconnect, withdraw_disconnect, confirm, disconnected, post_handle_event, next, poll_acquire_acl_send_lock, unlock_acl_send, poll_request_to_send, grant_end, confirm_sent, has_link_credits, exchange_att_mtu, get_att_mtu_handle, negotiate_att_mtu, get_stored_att_mtu, acquire_indication_slot, release_indication_slot, signal_indication_confirmation, wait_indication_confirmation, local, stored, stale, in_life, where_live, raised_ref, requested}
use Rattle.credit_balance.specs.Statement.{Entry, grants, completes, gives, nothing, entry_of}

-- credits before and after
abbrev pub Entered : Entry → ℕ → ℕ → Type 0
Entered (grants n) h h' = h' + n ≡ h
Entered (completes n) h h' = h' ≡ h + n
Entered (gives n) h h' = h' ≡ h + n
Entered nothing h h' = h' ≡ h

-- what the call does to its slot's credits is what its entry says
abbrev pub EntryRight : Op → ConnectionStorage → Local → Type 0
EntryRight op s l = Entered (entry_of op l.reply l.woken) s.link_credits l.slot.link_credits

stored_credits : (e : ConnectionEvent) (s : ConnectionStorage) → (stored e s).link_credits ≡ s.link_credits
stored_credits (event.Disconnected v) s = refl
stored_credits (event.PhyUpdated a b) s = refl
stored_credits (event.ConnectionParamsUpdated a b c) s = refl
stored_credits (event.SubratingParamsUpdated a b c d) s = refl
stored_credits (event.DataLengthUpdated a b c d) s = refl
stored_credits (event.ConnectionRateChanged a b c d e) s = refl

abbrev Same : ConnectionStorage → Local → Type 0
Same s l = l.slot.link_credits ≡ s.link_credits

pub same_raised : (vs : List ℕ) (s : ConnectionStorage) → Same s (raised_ref vs s)
same_raised vs s = either (Same s) (eqb s.refcount 255) _ _ refl refl

same_requested : (r : DisconnectReason) (s : ConnectionStorage) → Same s (requested r s)
same_requested r s = either (Same s) (is_connected s.state) _ _ refl refl

-- an end, of another life or at a slot that is not live
right_in_life : (op : Op) (v : ℕ) (s : ConnectionStorage) (l : Local) → EntryRight op s (accept stale s) → EntryRight op s l → EntryRight op s (in_life v s l)
right_in_life op v s l q p = either (EntryRight op s) (eqb v s.life) l (accept stale s) p q

right_where_live : (op : Op) (s : ConnectionStorage) (l : Local) → EntryRight op s (accept [] s) → EntryRight op s l → EntryRight op s (where_live s l)
right_where_live op s l q p = either (EntryRight op s) (is_live s.state) l (accept [] s) p q

pub entry_right : (op : Op) (d i : ℕ) (s : ConnectionStorage) → EntryRight op s (local op d i s)
entry_right get_connected_handle d i s = same_raised (i ∷ []) s
entry_right inc_ref d i s = same_raised [] s
entry_right dec_ref d i s =
    either (Same s) (eqb s.refcount 0) _ _ refl
    (either (Same s) (eqb (s.refcount - 1) 0) _ _ (same_requested RemoteUserTerminatedConn (set_refcount s (s.refcount - 1))) refl)
entry_right (request_disconnect r) d i s = same_requested r s
entry_right (request_handle_disconnect r) d i s = same_requested r s
entry_right withdraw_disconnect d i s =
    either (Same s) (is_requesting s.state) _ _ (either (Same s) (eqb s.refcount 0) _ _ refl refl) refl
entry_right (confirm h v r) d i s =
    right_in_life (confirm h v r) v s _ refl (either (Same s) (is_requesting s.state) _ _ refl refl)
entry_right (disconnected v) d i s = refl
entry_right (post_handle_event e) d i s = stored_credits e s
entry_right next d i s = refl
entry_right poll_acquire_acl_send_lock d i s = either (Same s) s.acl_send_locked _ _ refl refl
entry_right (unlock_acl_send h v) d i s =
    right_in_life (unlock_acl_send h v) v s _ refl
    (right_where_live (unlock_acl_send h v) s _ refl (either (Same s) s.acl_send_locked _ _ refl refl))
entry_right (poll_request_to_send j v n) d i s =
    split (leb n s.link_credits) (λ f. rw f (omega (arith, leb-true n s.link_credits f))) (λ f. rw f)
entry_right (grant_end h v n) d i s =
    right_in_life (grant_end h v n) v s _ refl
    (right_where_live (grant_end h v n) s _ refl
    (either (EntryRight (grant_end h v n) s) (eqb n 0) _ _ refl
    (either (EntryRight (grant_end h v n) s) (ltb (s.link_credits + n) (2 ^ 32)) _ _ refl refl)))
entry_right (confirm_sent n) d i s = either (EntryRight (confirm_sent n) s) (ltb (s.link_credits + n) (2 ^ 32)) _ _ refl refl
entry_right (has_link_credits n) d i s = refl
entry_right (exchange_att_mtu m) d i s = refl
entry_right get_att_mtu_handle d i s = refl
entry_right (negotiate_att_mtu m) d i s = refl
entry_right get_stored_att_mtu d i s = refl
entry_right acquire_indication_slot d i s =
    either (Same s) (is_open s.state) _ _ (either (Same s) s.indication_in_flight _ _ refl refl) refl
entry_right release_indication_slot d i s = refl
entry_right signal_indication_confirmation d i s = refl
entry_right wait_indication_confirmation d i s =
    either (Same s) s.indication_cfm_received _ _ refl (either (Same s) (is_open s.state) _ _ refl refl)
