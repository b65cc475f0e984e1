-- A slot that is not open neither waits for packets of the pool nor holds any: the proof of `ClosedIdle`. Assumes nothing.
use Rattle.std.specs.Prelude.{ℕ, ◌+◌, ◌-◌, ◌^◌, ◌<◌, ◌≡◌, refl, ◌≢◌, true, false, List, [], ◌∷◌, eqb, leb, ltb}
use Rattle.std.proofs.Common.{sym, ap, ◌∙◌, subst, arith, get_or-set_other}
use Rattle.std.proofs.lemmas.Bool.{false≢true}
use Rattle.std.proofs.lemmas.List.{get_or-replicate}
use Rattle.state.specs.declared.DisconnectReason.{DisconnectReason}
use Rattle.state.specs.declared.DisconnectReason.TheVariants.{RemoteUserTerminatedConn}
use Rattle.state.specs.State.{is_live, is_connected, is_open, is_requesting}
use Rattle.event_queue.specs.declared.ConnectionEvent.{ConnectionEvent}
use Rattle.event_queue.specs.declared.ConnectionEvent.TheVariants as event
use Rattle.slot.specs.declared.Address.{Address}
use Rattle.slot.specs.declared.LeConnRole.{LeConnRole}
use Rattle.slot.specs.declared.ConnParams.{ConnParams}
use Rattle.slot.specs.declared.ConnectionStorage.{ConnectionStorage}
use Rattle.slot.specs.declared.ConnectionManager.{ConnectionManager}
use Rattle.slot.specs.declared.Located.{Located}
use Rattle.slot.specs.declared.Located.TheVariants.{Setup, Absent, At}
use Rattle.slot.specs.Set.{set_refcount}
use Rattle.slot.specs.Fresh.{fresh_slot, blank_slot}
use Rattle.turn.specs.Turn.{waits}
use Rattle.turn.specs.Bits.{waits_here, waits_other, waits_past}
use Rattle.pool.specs.declared.Pool.{Pool}
use Rattle.pool.specs.declared.Share.{Share}
use Rattle.pool.specs.declared.Share.TheVariants.{Untouched, Waits, Draws, GivesBack, Closes}
use Rattle.pool.specs.Shared.{shared}
use Rattle.shuffle.specs.Shuffle.{by_key}
use Rattle.model.specs.Answer.{Reply, Local, accept}
use Rattle.model.specs.Find.{Test, slot_at, locate, by_live, fits, well_formed}
use Rattle.model.specs.Link.{Op, get_connected_handle, inc_ref, dec_ref, request_disconnect, request_handle_disconnect, withdraw_disconnect, confirm, disconnected, post_handle_event, next, poll_acquire_acl_send_lock, unlock_acl_send, poll_request_to_send, grant_end, confirm_sent, has_link_credits, exchange_att_mtu, get_att_mtu_handle, negotiate_att_mtu, get_stored_att_mtu, acquire_indication_slot, release_indication_slot, signal_indication_confirmation, wait_indication_confirmation, closing, local, stale, in_life, where_live, stored, raised_ref, requested, credited}
use Rattle.model.specs.Calls.{Call, on_link, connects, poll_accept_call, get_connection_by_peer_address_call, poll_disconnecting_call, ticket_at, set_link_credits_call, total_lost_call, poll_request_from_pool_call, pool_confirm_sent_call, pool_grant_end_call, grant_confirm, run, placed, settle, outcome, done, is_last_life, connected_at, accepted_at, asked_at, returned_at, pool_ended_at}
use Rattle.model.specs.History.{Reached, new, after, setup_ok}
use Rattle.model.proofs.Laws.{split, either, and_left, located}
use Rattle.model.proofs.Pooled.{Pooled, pooled}
use Rattle.model_theorems.proofs.Own.{live_open}
use Rattle.model_theorems.specs.Sound.{Sound}
use Rattle.model_theorems.proofs.Reach.{put_here, run_sound, new_sound, credits_at, PoolKept, asked_kept}
use Rattle.pool_theorems.specs.Statement.{ClosedIdle}

pub record Idle (t : ConnectionManager) : Type 0 where
  pub idle : (i : ℕ) → i < t.count → is_open (slot_at t i).state ≡ false
      → (waits i t.pool.waiting ≡ false) × ((slot_at t i).pool_held ≡ 0)

-- ---- a call that is about slot j

-- the waits of the others
others : (i j : ℕ) (x : Share) (p : Pool) → i ≢ j → waits i (shared j x p).waiting ≡ waits i p.waiting
others i j Untouched p n = refl
others i j Waits p n = waits_other i j 1 p.waiting (omega arith) n
others i j (Draws k) p n = waits_other i j 0 _ (omega arith) n ∙ waits_other i j 1 p.waiting (omega arith) n
others i j (GivesBack k) p n = refl
others i j (Closes k) p n = waits_other i j 0 p.waiting (omega arith) n

-- what the call must leave of its slot
abbrev Leaves : ConnectionManager → ℕ → Local → Type 0
Leaves t j l = is_open l.slot.state ≡ false → (waits j (shared j l.share t.pool).waiting ≡ false) × (l.slot.pool_held ≡ 0)

placed_idle : (t : ConnectionManager) (j : ℕ) (l : Local) → Sound t → j < t.count → Idle t → Leaves t j l → Idle (placed t j l).table
placed_idle t j l w h d k =
    record {
      idle =
          λ i g.
          by_key (λ (x : ℕ). x) i j
          (λ q. rw (q, put_here t j l.slot (omega (arith, h, w.places, w.formed.most))) k)
          (λ n. rw (get_or-set_other t.connections j i l.slot blank_slot n, others i j l.share t.pool n) (d.idle i g));
    }

module _ (test : Test) (none : Reply) (at : ℕ → Local) (t : ConnectionManager) (w : Sound t) (d : Idle t)
    (leaves : (j : ℕ) → j < t.count → test j (slot_at t j) ≡ true → Leaves t j (at j)) where
  outcome_idle : Idle (outcome test none at t).table
  outcome_idle = go (locate test t) refl
    where
      go : (f : Located) → locate test t ≡ f → Idle (settle none at t f).table
      go Setup e = d
      go Absent e = d
      go (At j) e = let l = located test t j e in placed_idle t j (at j) w l.1 d (leaves j l.1 l.2)

-- ---- a call on a link: `disconnected` closes the slot, and nothing else does

abbrev Opens : ConnectionStorage → Local → Type 0
Opens s l = is_open l.slot.state ≡ false → is_open s.state ≡ false

opens_requested : (r : DisconnectReason) (s : ConnectionStorage) → Opens s (requested r s)
opens_requested r s = either (Opens s) (is_connected s.state) _ _ (λ q. absurd (false≢true (sym q))) (λ q. q)

opens_raised : (vs : List ℕ) (s : ConnectionStorage) → Opens s (raised_ref vs s)
opens_raised vs s = either (Opens s) (eqb s.refcount 255) _ _ (λ q. q) (λ q. q)

opens_in_life : (v : ℕ) (s : ConnectionStorage) (l : Local) → Opens s l → Opens s (in_life v s l)
opens_in_life v s l p = either (Opens s) (eqb v s.life) l (accept stale s) p (λ q. q)

opens_where_live : (s : ConnectionStorage) (l : Local) → Opens s l → Opens s (where_live s l)
opens_where_live s l p = either (Opens s) (is_live s.state) l (accept [] s) p (λ q. q)

opens_credited : (n i : ℕ) (s : ConnectionStorage) → Opens s (credited n i s)
opens_credited n i s = either (Opens s) (ltb (s.link_credits + n) (2 ^ 32)) _ _ (λ q. q) (λ q. q)

opens_stored : (e : ConnectionEvent) (s : ConnectionStorage) → is_open (stored e s).state ≡ false → is_open s.state ≡ false
opens_stored (event.Disconnected v) s = λ q. q
opens_stored (event.PhyUpdated a b) s = λ q. q
opens_stored (event.ConnectionParamsUpdated a b c) s = λ q. q
opens_stored (event.SubratingParamsUpdated a b c d) s = λ q. q
opens_stored (event.DataLengthUpdated a b c d) s = λ q. q
opens_stored (event.ConnectionRateChanged a b c d e) s = λ q. q

opens : (op : Op) (d i : ℕ) (s : ConnectionStorage) → closing op ≡ false → Opens s (local op d i s)
opens get_connected_handle d i s c = opens_raised (i ∷ []) s
opens inc_ref d i s c = opens_raised [] s
opens dec_ref d i s c =
    either (Opens s) (eqb s.refcount 0) _ _ (λ q. q)
    (either (Opens s) (eqb (s.refcount - 1) 0) _ _ (opens_requested RemoteUserTerminatedConn (set_refcount s (s.refcount - 1))) (λ q. q))
opens (request_disconnect r) d i s c = opens_requested r s
opens (request_handle_disconnect r) d i s c = opens_requested r s
opens withdraw_disconnect d i s c =
    either (Opens s) (is_requesting s.state) _ _
    (either (Opens s) (eqb s.refcount 0) _ _ (λ q. q) (λ q. absurd (false≢true (sym q))))
    (λ q. q)
opens (confirm h v r) d i s c =
    opens_in_life v s _ (either (Opens s) (is_requesting s.state) _ _ (λ q. absurd (false≢true (sym q))) (λ q. q))
opens (disconnected v) d i s c = absurd (false≢true (sym c))
opens (post_handle_event e) d i s c = opens_stored e s
opens next d i s c = λ q. q
opens poll_acquire_acl_send_lock d i s c = either (Opens s) s.acl_send_locked _ _ (λ q. q) (λ q. q)
opens (unlock_acl_send h v) d i s c =
    opens_in_life v s _ (opens_where_live s _ (either (Opens s) s.acl_send_locked _ _ (λ q. q) (λ q. q)))
opens (poll_request_to_send j v n) d i s c = either (Opens s) (leb n s.link_credits) _ _ (λ q. q) (λ q. q)
opens (grant_end h v n) d i s c =
    opens_in_life v s _ (opens_where_live s _ (either (Opens s) (eqb n 0) _ _ (λ q. q) (opens_credited n i s)))
opens (confirm_sent n) d i s c = opens_credited n i s
opens (has_link_credits n) d i s c = λ q. q
opens (exchange_att_mtu m) d i s c = λ q. q
opens get_att_mtu_handle d i s c = λ q. q
opens (negotiate_att_mtu m) d i s c = λ q. q
opens get_stored_att_mtu d i s c = λ q. q
opens acquire_indication_slot d i s c =
    either (Opens s) (is_open s.state) _ _ (either (Opens s) s.indication_in_flight _ _ (λ q. q) (λ q. q)) (λ q. q)
opens release_indication_slot d i s c = λ q. q
opens signal_indication_confirmation d i s c = λ q. q
opens wait_indication_confirmation d i s c =
    either (Opens s) s.indication_cfm_received _ _ (λ q. q) (either (Opens s) (is_open s.state) _ _ (λ q. q) (λ q. q))

module _ (t : ConnectionManager) (d : Idle t) where
  -- what leaves the pool, what the slot holds, and whether it is open
  share_untouched : (j : ℕ) (l : Local) → j < t.count → l.share ≡ Untouched → l.slot.pool_held ≡ (slot_at t j).pool_held
      → Opens (slot_at t j) l → Leaves t j l
  share_untouched j l h p q o z = let k = d.idle j h (o z) in rw p (k.0, q ∙ k.1)

  link_leaves : (op : Op) (j : ℕ) → j < t.count → Leaves t j (done op t j)
  link_leaves op j h =
      split (closing op)
      (λ f z. let p = k.share in let q = k.held in rw (rw f at p) (waits_here j 0 t.pool.waiting (omega arith), rw f at q))
      (λ f. share_untouched j (done op t j) h (rw f at k.share) (rw f at k.held) (opens op _ j (slot_at t j) f))
    where
      k : Pooled op (slot_at t j) (done op t j)
      k = pooled op t.default_att_mtu j (slot_at t j)

  -- the calls on the pool: an ask is at a live slot; what gives packets back gives none where none is held
  state_kept : PoolKept (λ u. u.state)
  state_kept s m = (refl, refl)

  asked_leaves : (a k j : ℕ) → fits by_live a j (slot_at t j) ≡ true → Leaves t j (asked_at t.count k j (slot_at t j) t.pool)
  asked_leaves a k j f z =
      let live = and_left (is_live (slot_at t j).state) _ f in
      let same = asked_kept (λ u. u.state) state_kept t.count k j (slot_at t j) t.pool in
      absurd (false≢true (sym z ∙ ap is_open same ∙ live_open (slot_at t j).state live))

  returned_leaves : (k j : ℕ) → j < t.count → Leaves t j (returned_at k (slot_at t j))
  returned_leaves k j h =
      either (Leaves t j) (leb k (slot_at t j).pool_held) _ _
      (λ z. let e = d.idle j h z in (e.0, omega (arith, e.1)))
      (d.idle j h)

  ended_leaves : (v k j : ℕ) → j < t.count → Leaves t j (pool_ended_at v k (slot_at t j))
  ended_leaves v k j h =
      either (Leaves t j) (eqb v (slot_at t j).life) _ _
      (either (Leaves t j) (is_live (slot_at t j).state) _ _ (returned_leaves k j h) (d.idle j h))
      (d.idle j h)

  connected_leaves : (h : ℕ) (a : Address) (r : LeConnRole) (p : ConnParams) (c j : ℕ) → j < t.count
      → Leaves t j (connected_at h a r p c (slot_at t j))
  connected_leaves h a r p c j g =
      either (Leaves t j) (is_last_life (slot_at t j)) _ _ (d.idle j g) (λ z. absurd (false≢true (sym z)))

  accepted_leaves : (j : ℕ) → j < t.count → Leaves t j (accepted_at j (slot_at t j))
  accepted_leaves j g = either (Leaves t j) (eqb (slot_at t j).refcount 0) _ _ (λ z. absurd (false≢true (sym z))) (d.idle j g)

  raised_leaves : (j : ℕ) → j < t.count → Leaves t j (raised_ref (j ∷ []) (slot_at t j))
  raised_leaves j g = either (Leaves t j) (eqb (slot_at t j).refcount 255) _ _ (d.idle j g) (d.idle j g)

  credits_idle : (c : ℕ) → Sound t → Idle (run (set_link_credits_call c) t).table
  credits_idle c w =
      split (well_formed t)
      (λ f.
      rw f
      (record {
        idle =
            λ i g.
            rw (credits_at c t.count t.connections i g (omega (arith, w.places, w.formed.most))) (d.idle i g);
      }))
      (λ f. rw f d)

-- ---- every call, and every history

pub run_idle : (c : Call) (t : ConnectionManager) → Sound t → Idle t → Idle (run c t).table
run_idle (on_link op n) t w d = outcome_idle _ _ _ t w d (λ j h f. link_leaves t d op j h)
run_idle (connects a b r p) t w d = outcome_idle _ _ _ t w d (λ j h f. connected_leaves t d a b r p _ j h)
run_idle (poll_accept_call r ps) t w d = outcome_idle _ _ (λ j. accepted_at j (slot_at t j)) t w d (λ j h f. accepted_leaves t d j h)
run_idle (get_connection_by_peer_address_call a) t w d = outcome_idle _ _ _ t w d (λ j h f. raised_leaves t d j h)
run_idle poll_disconnecting_call t w d = outcome_idle _ _ (λ j. ticket_at j (slot_at t j)) t w d (λ j h f. d.idle j h)
run_idle (set_link_credits_call c) t w d = credits_idle t d c w
run_idle total_lost_call t w d = split (well_formed t) (λ f. rw f d) (λ f. rw f d)
run_idle (poll_request_from_pool_call a k) t w d = outcome_idle (fits by_live a) _ _ t w d (λ j h f. asked_leaves t d a k j f)
run_idle (pool_confirm_sent_call a k) t w d = outcome_idle _ _ _ t w d (λ j h f. returned_leaves t d k j h)
run_idle (pool_grant_end_call g) t w d = outcome_idle _ _ _ t w d (λ j h f. ended_leaves t d g.life g.packets j h)
run_idle (grant_confirm g n) t w d = d

pub after_idle : (cs : List Call) (t : ConnectionManager) → Sound t → Idle t → Idle (after cs t)
after_idle [] t w d = d
after_idle (c ∷ cs) t w d = after_idle cs (run c t).table (run_sound c t w) (run_idle c t w d)

new_idle : (n m c : ℕ) → (new n m c).reply.number ≡ 0 → Idle (new n m c).table
new_idle n m c e =
    split (setup_ok n m c)
    (λ f.
    let most = rw f at (new_sound n m c e).formed.most in
    rw f
    (record {
      idle = λ i g z. (waits_past 0 i 0 (omega arith) (omega arith), rw (get_or-replicate 16 i fresh_slot blank_slot (omega (arith, most))));
    }))
    (λ f. absurd (omega (arith, rw f at e)))

reached_idle : (t : ConnectionManager) → Reached t → Idle t
reached_idle t r =
    subst Idle r.leads
    (after_idle r.calls _ (new_sound r.slots r.packet_mtu r.packets r.fresh) (new_idle r.slots r.packet_mtu r.packets r.fresh))

pub closed_idle : ClosedIdle
unfolding ClosedIdle
closed_idle t r i h c = (reached_idle t r).idle i h c
