-- Laws about the packets of the pool: what the slots hold together, and what every call does to the pool and to its slot's part.
-- Assumes nothing.
use Rattle.std.specs.Prelude.{ℕ, zero, suc, ◌+◌, ◌-◌, ◌^◌, ◌<◌, ◌≤◌, ◌≡◌, refl, ◌≢◌, Bool, true, false, cond, List, [], ◌∷◌, get_or, set, length, eqb, leb, ltb}
use Rattle.std.proofs.Common.{sym, ap, ap₂, ◌∙◌, arith, get_or-set_same, get_or-set_other, eqb-true, leb-true}
use Rattle.std.proofs.lemmas.Bool.{false≢true, eqb-false}
use Rattle.state.specs.declared.DisconnectReason.{DisconnectReason}
use Rattle.state.specs.declared.DisconnectReason.TheVariants.{RemoteUserTerminatedConn}
use Rattle.event_queue.specs.declared.ConnectionEvent.{ConnectionEvent}
use Rattle.event_queue.specs.declared.ConnectionEvent.TheVariants as event
use Rattle.state.specs.State.{is_live, is_connected, is_requesting, is_open}
use Rattle.slot.specs.Set.{set_refcount}
use Rattle.slot.specs.declared.ConnectionStorage.{ConnectionStorage}
use Rattle.slot.specs.Fresh.{blank_slot}
use Rattle.slot.specs.declared.Address.{Address}
use Rattle.slot.specs.declared.LeConnRole.{LeConnRole}
use Rattle.slot.specs.declared.ConnParams.{ConnParams}
use Rattle.turn.specs.Turn.{next_waiting}
use Rattle.pool.specs.declared.Pool.{Pool}
use Rattle.pool.specs.Pool.{joined, may_draw}
use Rattle.pool.specs.declared.Share.{Share}
use Rattle.pool.specs.declared.Share.TheVariants.{Untouched, Waits, Draws, GivesBack, Closes}
use Rattle.model.specs.Answer.{Local, accept}
use Rattle.model.specs.Find.{held_by}
use Rattle.model.proofs.Laws.{either, split, and_right}
use Rattle.model.specs.Link.{Op, get_connected_handle, inc_ref, dec_ref, request_disconnect, request_handle_disconnect, withdraw_disconnect, confirm, disconnected, post_handle_event, next, poll_acquire_acl_send_lock, unlock_acl_send, poll_request_to_send, grant_end, confirm_sent, has_link_credits, exchange_att_mtu, get_att_mtu_handle, negotiate_att_mtu, get_stored_att_mtu, acquire_indication_slot, release_indication_slot, signal_indication_confirmation, wait_indication_confirmation, closing, local, stale, in_life, where_live, stored, raised_ref, requested}
use Rattle.model.specs.Calls.{accepted_at, connected_at, is_last_life, drawn_if, asked_if, asked_at, returned_at, pool_ended_at}

-- the sum goes by what each slot holds
pub held_same : (ss us : List ConnectionStorage) (n i : ℕ)
    → ((j : ℕ) → i ≤ j → j < i + n → (get_or ss j blank_slot).pool_held ≡ (get_or us j blank_slot).pool_held)
    → held_by ss n i ≡ held_by us n i
unfolding held_by
held_same ss us zero i h = refl
held_same ss us (suc n) i h =
    ap₂ (λ (x y : ℕ). x + y) (h i (omega arith) (omega arith)) (held_same ss us n (i + 1) (λ j a b. h j (omega arith) (omega arith)))

-- a slot put back among them
pub held_set : (ss : List ConnectionStorage) (n i k : ℕ) (s : ConnectionStorage) → i ≤ k → k < i + n → k < length ss
    → held_by (set ss k s) n i + (get_or ss k blank_slot).pool_held ≡ held_by ss n i + s.pool_held
unfolding held_by
held_set ss zero i k s a b c = absurd (omega arith)
held_set ss (suc n) i k s a b c =
    split (eqb k i)
    (λ f.
    let e : k ≡ i = eqb-true k i f in
    rw (e, get_or-set_same ss i s blank_slot (omega (arith, e)))
    (let r = held_same (set ss k s) ss n (i + 1) (λ j x y. ap (λ u. u.pool_held) (get_or-set_other ss k j s blank_slot (omega arith))) in
    rw r (omega arith)))
    (λ f.
    let e : k ≢ i = eqb-false k i f in
    let r = held_set ss n (i + 1) k s (omega arith) (omega arith) c in
    rw (get_or-set_other ss k i s blank_slot (λ q. e (omega arith))) (omega (arith, r)))

-- none of them holds any
pub held_none : (ss : List ConnectionStorage) (n i : ℕ)
    → ((j : ℕ) → i ≤ j → j < i + n → (get_or ss j blank_slot).pool_held ≡ 0) → held_by ss n i ≡ 0
unfolding held_by
held_none ss zero i h = refl
held_none ss (suc n) i h =
    let a = h i (omega arith) (omega arith) in
    let b = held_none ss n (i + 1) (λ j a b. h j (omega arith) (omega arith)) in
    omega arith

-- each holds no more than all together
pub held_each : (ss : List ConnectionStorage) (n i k : ℕ) → i ≤ k → k < i + n → (get_or ss k blank_slot).pool_held ≤ held_by ss n i
unfolding held_by
held_each ss zero i k a b = absurd (omega arith)
held_each ss (suc n) i k a b =
    split (eqb k i)
    (λ f. rw (eqb-true k i f) (omega arith))
    (λ f. let e = eqb-false k i f in let r = held_each ss n (i + 1) k (omega arith) (omega arith) in omega arith)

-- ---- what a call does to the pool and to what its slot holds

-- with f packets free and h held before, h' held afterwards
abbrev pub Moved : Share → ℕ → ℕ → ℕ → Type 0
Moved Untouched f h h' = h' ≡ h
Moved Waits f h h' = h' ≡ h
Moved (Draws n) f h h' = (n ≤ f) × (h' ≡ h + n)
Moved (GivesBack n) f h h' = h' + n ≡ h
Moved (Closes n) f h h' = (n ≡ h) × (h' ≡ 0)

-- ---- every call on a link: nothing, or it closes its link

module _ (op : Op) (s : ConnectionStorage) (l : Local) where
  pub record Pooled : Type 0 where
    pub share : l.share ≡ cond (closing op) (Closes s.pool_held) Untouched
    pub held : l.slot.pool_held ≡ cond (closing op) 0 s.pool_held
    pub refused : l.reply.number ≢ 0 → l.share ≡ Untouched
    pub accepted : closing op ≡ true → l.reply.number ≡ 0

abbrev Plain : ConnectionStorage → Local → Type 0
Plain s l = (l.share ≡ Untouched) × (l.slot.pool_held ≡ s.pool_held)

plain : {op : Op} {s : ConnectionStorage} {l : Local} → closing op ≡ false → Plain s l → Pooled op s l
plain c p = record { share = rw c p.0; held = rw c p.1; refused = λ n. p.0; accepted = λ e. absurd (false≢true (sym c ∙ e)) }

stored_held : (e : ConnectionEvent) (s : ConnectionStorage) → (stored e s).pool_held ≡ s.pool_held
stored_held (event.Disconnected v) s = refl
stored_held (event.PhyUpdated a b) s = refl
stored_held (event.ConnectionParamsUpdated a b c) s = refl
stored_held (event.SubratingParamsUpdated a b c d) s = refl
stored_held (event.DataLengthUpdated a b c d) s = refl
stored_held (event.ConnectionRateChanged a b c d e) s = refl

plain_raised : (vs : List ℕ) (s : ConnectionStorage) → Plain s (raised_ref vs s)
plain_raised vs s = either (Plain s) (eqb s.refcount 255) _ _ (refl, refl) (refl, refl)

plain_requested : (r : DisconnectReason) (s : ConnectionStorage) → Plain s (requested r s)
plain_requested r s = either (Plain s) (is_connected s.state) _ _ (refl, refl) (refl, refl)

plain_in_life : (v : ℕ) (s : ConnectionStorage) (l : Local) → Plain s l → Plain s (in_life v s l)
plain_in_life v s l p = either (Plain s) (eqb v s.life) l (accept stale s) p (refl, refl)

plain_where_live : (s : ConnectionStorage) (l : Local) → Plain s l → Plain s (where_live s l)
plain_where_live s l p = either (Plain s) (is_live s.state) l (accept [] s) p (refl, refl)

plain_credited : (n : ℕ) (i : ℕ) (s : ConnectionStorage) → Plain s (local (confirm_sent n) 0 i s)
plain_credited n i s = either (Plain s) (ltb (s.link_credits + n) (2 ^ 32)) _ _ (refl, refl) (refl, refl)

pub pooled : (op : Op) (d i : ℕ) (s : ConnectionStorage) → Pooled op s (local op d i s)
pooled get_connected_handle d i s = plain refl (plain_raised (i ∷ []) s)
pooled inc_ref d i s = plain refl (plain_raised [] s)
pooled dec_ref d i s =
    plain refl
    (either (Plain s) (eqb s.refcount 0) _ _ (refl, refl)
    (either (Plain s) (eqb (s.refcount - 1) 0) _ _ (plain_requested RemoteUserTerminatedConn (set_refcount s (s.refcount - 1))) (refl, refl)))
pooled (request_disconnect r) d i s = plain refl (plain_requested r s)
pooled (request_handle_disconnect r) d i s = plain refl (plain_requested r s)
pooled withdraw_disconnect d i s =
    plain refl
    (either (Plain s) (is_requesting s.state) _ _ (either (Plain s) (eqb s.refcount 0) _ _ (refl, refl) (refl, refl)) (refl, refl))
pooled (confirm h v r) d i s =
    plain refl (plain_in_life v s _ (either (Plain s) (is_requesting s.state) _ _ (refl, refl) (refl, refl)))
pooled (disconnected v) d i s = record { share = refl; held = refl; refused = λ n. absurd (n refl); accepted = λ e. refl }
pooled (post_handle_event e) d i s = plain refl (refl, stored_held e s)
pooled next d i s = plain refl (refl, refl)
pooled poll_acquire_acl_send_lock d i s = plain refl (either (Plain s) s.acl_send_locked _ _ (refl, refl) (refl, refl))
pooled (unlock_acl_send h v) d i s =
    plain refl (plain_in_life v s _ (plain_where_live s _ (either (Plain s) s.acl_send_locked _ _ (refl, refl) (refl, refl))))
pooled (poll_request_to_send j v n) d i s = plain refl (either (Plain s) (leb n s.link_credits) _ _ (refl, refl) (refl, refl))
pooled (grant_end h v n) d i s =
    plain refl
    (plain_in_life v s _ (plain_where_live s _ (either (Plain s) (eqb n 0) _ _ (refl, refl) (plain_credited n i s))))
pooled (confirm_sent n) d i s = plain refl (plain_credited n i s)
pooled (has_link_credits n) d i s = plain refl (refl, refl)
pooled (exchange_att_mtu m) d i s = plain refl (refl, refl)
pooled get_att_mtu_handle d i s = plain refl (refl, refl)
pooled (negotiate_att_mtu m) d i s = plain refl (refl, refl)
pooled get_stored_att_mtu d i s = plain refl (refl, refl)
pooled acquire_indication_slot d i s =
    plain refl
    (either (Plain s) (is_open s.state) _ _ (either (Plain s) s.indication_in_flight _ _ (refl, refl) (refl, refl)) (refl, refl))
pooled release_indication_slot d i s = plain refl (refl, refl)
pooled signal_indication_confirmation d i s = plain refl (refl, refl)
pooled wait_indication_confirmation d i s =
    plain refl
    (either (Plain s) s.indication_cfm_received _ _ (refl, refl) (either (Plain s) (is_open s.state) _ _ (refl, refl) (refl, refl)))

pub by_closing : (b : Bool) (x : Share) (f h h' : ℕ) → x ≡ cond b (Closes h) Untouched → h' ≡ cond b 0 h → Moved x f h h'
by_closing true x f h h' p q = rw p (refl, q)
by_closing false x f h h' p q = rw p q

-- ---- poll_accept and connect

pub accepted_moved : (i f : ℕ) (s : ConnectionStorage) → Moved (accepted_at i s).share f s.pool_held (accepted_at i s).slot.pool_held
accepted_moved i f s = split (eqb s.refcount 0) (λ g. rw g) (λ g. rw g)

pub connected_moved : (h : ℕ) (a : Address) (r : LeConnRole) (p : ConnParams) (c f : ℕ) (s : ConnectionStorage)
    → Moved (connected_at h a r p c s).share f s.pool_held (connected_at h a r p c s).slot.pool_held
connected_moved h a r p c f s = split (is_last_life s) (λ g. rw g) (λ g. rw g)

-- ---- the calls on the pool

abbrev pub PoolMoved : ConnectionStorage → Pool → Local → Type 0
PoolMoved s p l = Moved l.share p.free s.pool_held l.slot.pool_held

pub asked_if_moved : (b : Bool) (k i : ℕ) (s : ConnectionStorage) (p : Pool) → (b ≡ true → k ≤ p.free)
    → PoolMoved s p (asked_if b k i s p)
asked_if_moved b k i s p h =
    either (PoolMoved s p) (ltb p.packets k) _ _ refl
    (either (PoolMoved s p) (eqb k 0) _ _ refl (by_turn b h))
  where
    by_turn : (c : Bool) → (c ≡ true → k ≤ p.free) → PoolMoved s p (drawn_if c k i s)
    by_turn true g = (g refl, refl)
    by_turn false g = refl

-- what may be drawn is free
pub may_free : (n i k : ℕ) (p : Pool) → may_draw n i k p ≡ true → k ≤ p.free
may_free n i k p d = leb-true k p.free (and_right (eqb (next_waiting p.waiting n p.turn) i) _ d)

pub asked_moved : (n k i : ℕ) (s : ConnectionStorage) (p : Pool) → PoolMoved s p (asked_at n k i s p)
asked_moved n k i s p = asked_if_moved (may_draw n i k (joined i p)) k i s p (may_free n i k (joined i p))

pub returned_moved : (k : ℕ) (s : ConnectionStorage) (p : Pool) → PoolMoved s p (returned_at k s)
returned_moved k s p =
    split (leb k s.pool_held) (λ a. rw a (omega (arith, leb-true k s.pool_held a))) (λ a. rw a)
