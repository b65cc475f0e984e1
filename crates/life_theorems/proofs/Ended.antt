-- The ends of locks, grants, tickets and pool grants are what the statements of Life.antt say. Assumes nothing.
use Rattle.std.specs.Prelude.{ℕ, ◌+◌, ◌-◌, ◌^◌, ◌<◌, ◌≡◌, refl, ◌≢◌, true, false, cond, List, [], ◌∷◌, eqb, leb, ltb}
use Rattle.std.proofs.Common.{sym, ap, ◌∙◌, arith, eq-eqb, ne_eqb, eqb-true}
use Rattle.std.proofs.lemmas.Bool.{false≢true}
use Rattle.state.specs.declared.DisconnectReason.{DisconnectReason}
use Rattle.state.specs.declared.DisconnectReason.TheVariants.{RemoteUserTerminatedConn}
use Rattle.state.specs.declared.ConnectionState.{ConnectionState}
use Rattle.state.specs.declared.ConnectionState.TheVariants.{Disconnected, DisconnectRequest, Disconnecting, Connecting, Connected}
use Rattle.event_queue.specs.declared.ConnectionEvent.{ConnectionEvent}
use Rattle.event_queue.specs.declared.ConnectionEvent.TheVariants as event
use Rattle.pool.specs.declared.Share.TheVariants.{Untouched}
use Rattle.pool.specs.Pool.{joined, may_draw}
use Rattle.slot.specs.declared.ConnectionStorage.{ConnectionStorage}
use Rattle.slot.specs.declared.ConnectionManager.{ConnectionManager}
use Rattle.slot.specs.declared.Located.{Located}
use Rattle.slot.specs.declared.Located.TheVariants.{Setup, Absent, At}
use Rattle.slot.specs.declared.Woken.TheVariants.{Nobody}
use Rattle.state.specs.State.{is_live, is_open, is_connected, is_requesting}
use Rattle.slot.specs.Set.{set_refcount}
use Rattle.model.specs.Answer.{Refusal, Reply, Local, Outcome, ok, refusal, accept, unmoved}
use Rattle.model.specs.Find.{Test, slot_at, well_formed, locate, fits, by_index, by_live}
use Rattle.model.specs.Link.{Op, get_connected_handle, inc_ref, dec_ref, request_disconnect, request_handle_disconnect, withdraw_disconnect, confirm, disconnected, post_handle_event, next, poll_acquire_acl_send_lock, unlock_acl_send, poll_request_to_send, grant_end, confirm_sent, has_link_credits, exchange_att_mtu, get_att_mtu_handle, negotiate_att_mtu, get_stored_att_mtu, acquire_indication_slot, release_indication_slot, signal_indication_confirmation, wait_indication_confirmation, way_of, absent, local, stale, in_life, where_live, stored, raised_ref, requested, unlocked, credited, grant_ended, confirmed}
use Rattle.model.specs.Calls.{Call, on_link, run, settle, outcome, done, requests, ticket_at, asked_at, pool_ended_at}
use Rattle.model.specs.History.{after}
use Rattle.model.proofs.Laws.{split, either, well_formed_lem, formed_well, located, put_same}
use Rattle.model.specs.Demand3.{Link, Trace, call_of, table_from, end_table}
use Rattle.life_theorems.specs.Life.{taken_by, taken_in, HandsOut, Ends, own_reply, closed_reply, OnlyHandle, by_handle, HandedOut, StaleEnd, LateEnd, ClosedEnd, EndInTrace, AsByHandle}
use Rattle.model_theorems.specs.Sound.{Sound}
use Rattle.model_theorems.proofs.Reach.{put_each, run_sound, after_sound, reached_sound}
use Rattle.model_theorems.proofs.Losses.{run_count, after_count}
use Rattle.life_theorems.proofs.Lives.{link_life, run_life, after_life}
use Rattle.model_theorems.proofs.Own.{under_start, own_slot}
use Rattle.model_theorems.proofs.Withdrawn.{at_index}

-- ---- a call by index that leaves its slot and wakes nobody

abbrev by_index_outcome : ℕ → (ℕ → Local) → ConnectionManager → Outcome
by_index_outcome i at t = outcome (fits by_index i) (refusal Refusal.Index) at t

module _ (t : ConnectionManager) (i : ℕ) (at : ℕ → Local) (r : Reply)
    (there : at i ≡ record { reply = r; woken = Nobody; slot = slot_at t i; share = Untouched }) where
  abbrev from : Located → Outcome
  from f = settle (refusal Refusal.Index) at t f

  at_slot : from (At i) ≡ unmoved r t
  at_slot = rw there (ap (unmoved r) (put_same t i))

  by_found : (f : Located) → locate (fits by_index i) t ≡ f → from f ≡ unmoved (from f).reply t
  by_found Setup q = refl
  by_found Absent q = refl
  by_found (At j) q =
      rw (eqb-true j i (located (fits by_index i) t j q).2)
      (at_slot ∙ ap (λ (o : Outcome). unmoved o.reply t) (sym at_slot))

  -- every table
  quiet : by_index_outcome i at t ≡ unmoved (by_index_outcome i at t).reply t
  quiet = by_found (locate (fits by_index i) t) refl

  -- 8 and 1 aside
  answered : well_formed t ≡ true → i < t.count → by_index_outcome i at t ≡ unmoved r t
  answered w h = rw (at_index t i (formed_well t w) h) at_slot

-- ---- the end of a lock, a grant, a ticket or a pool grant

-- what it does at slot j
abbrev end_at : {i v : ℕ} {end : Call} → Ends i v end → ConnectionManager → ℕ → Local
end_at {i} {v} (Ends.a_lock h) t j = done (unlock_acl_send h v) t j
end_at {i} {v} (Ends.a_grant h n) t j = done (grant_end h v n) t j
end_at {i} {v} (Ends.a_ticket h r) t j = done (confirm h v r) t j
end_at {i} {v} (Ends.a_pool_grant h n) t j = pool_ended_at v n (slot_at t j)

by_slot : {i v : ℕ} {end : Call} (e : Ends i v end) (t : ConnectionManager) → run end t ≡ by_index_outcome i (end_at e t) t
by_slot (Ends.a_lock h) t = refl
by_slot (Ends.a_grant h n) t = refl
by_slot (Ends.a_ticket h r) t = refl
by_slot (Ends.a_pool_grant h n) t = refl

-- of another life
end_stale : {i v : ℕ} {end : Call} (e : Ends i v end) (t : ConnectionManager) (j : ℕ) → v ≢ (slot_at t j).life
    → end_at e t j ≡ accept stale (slot_at t j)
end_stale {i} {v} (Ends.a_lock h) t j n = rw (ne_eqb v (slot_at t j).life n)
end_stale {i} {v} (Ends.a_grant h p) t j n = rw (ne_eqb v (slot_at t j).life n)
end_stale {i} {v} (Ends.a_ticket h r) t j n = rw (ne_eqb v (slot_at t j).life n)
end_stale {i} {v} (Ends.a_pool_grant h p) t j n = rw (ne_eqb v (slot_at t j).life n)

-- at a closed slot
end_closed : {i v : ℕ} {end : Call} (e : Ends i v end) (t : ConnectionManager) (j : ℕ) → (slot_at t j).state ≡ Disconnected
    → end_at e t j ≡ record { reply = closed_reply e (slot_at t j); woken = Nobody; slot = slot_at t j; share = Untouched }
end_closed {i} {v} (Ends.a_lock h) t j c = split (eqb v (slot_at t j).life) (λ f. rw (f, c)) (λ f. rw f)
end_closed {i} {v} (Ends.a_grant h n) t j c = split (eqb v (slot_at t j).life) (λ f. rw (f, c)) (λ f. rw f)
end_closed {i} {v} (Ends.a_ticket h r) t j c = split (eqb v (slot_at t j).life) (λ f. rw (f, c)) (λ f. rw f)
end_closed {i} {v} (Ends.a_pool_grant h n) t j c = split (eqb v (slot_at t j).life) (λ f. rw (f, c)) (λ f. rw f)

-- in its own life it has no values, whatever it did
abbrev NoValues : Local → Type 0
NoValues l = l.reply.values ≡ []

live_no_values : (s : ConnectionStorage) (l : Local) → NoValues l → NoValues (where_live s l)
live_no_values s l q = either NoValues (is_live s.state) l (accept [] s) q refl

end_no_values : {i v : ℕ} {end : Call} (e : Ends i v end) (t : ConnectionManager) (j : ℕ) → v ≡ (slot_at t j).life → NoValues (end_at e t j)
end_no_values {i} {v} (Ends.a_lock h) t j p =
    rw (eq-eqb v (slot_at t j).life p)
    (live_no_values (slot_at t j) _ (either NoValues (slot_at t j).acl_send_locked _ _ refl refl))
end_no_values {i} {v} (Ends.a_grant h n) t j p =
    rw (eq-eqb v (slot_at t j).life p)
    (live_no_values (slot_at t j) _
    (either NoValues (eqb n 0) _ _ refl (either NoValues (ltb ((slot_at t j).link_credits + n) (2 ^ 32)) _ _ refl refl)))
end_no_values {i} {v} (Ends.a_ticket h r) t j p =
    rw (eq-eqb v (slot_at t j).life p) (either NoValues (is_requesting (slot_at t j).state) _ _ refl refl)
end_no_values {i} {v} (Ends.a_pool_grant h n) t j p =
    rw (eq-eqb v (slot_at t j).life p)
    (either NoValues (is_live (slot_at t j).state) _ _ (either NoValues (leb n (slot_at t j).pool_held) _ _ refl refl) refl)

-- ---- Stale

some_values : ◌≡◌ {A = List ℕ} [] stale → ⊥
some_values e = let z : ◌≡◌ {A = ℕ} 0 1 = cc in omega arith

module _ {i v : ℕ} {end : Call} (e : Ends i v end) (t : ConnectionManager) where
  told_at : (f : Located) → locate (fits by_index i) t ≡ f → (settle (refusal Refusal.Index) (end_at e t) t f).reply ≡ ok stale
      → (well_formed t ≡ true) × (i < t.count) × (v ≢ (slot_at t i).life)
  told_at Setup q p = absurd (omega (arith, ap (λ (r : Reply). r.number) p))
  told_at Absent q p = absurd (omega (arith, ap (λ (r : Reply). r.number) p))
  told_at (At j) q p =
      let l = located (fits by_index i) t j q in
      let here : j ≡ i = eqb-true j i l.2 in (
        l.0,
        omega (arith, here, l.1),
        λ own.
            some_values
            (sym (end_no_values e t j (own ∙ ap (λ (k : ℕ). (slot_at t k).life) (sym here)))
            ∙ ap (λ (r : Reply). r.values) p),
      )

  told_apart : (run end t).reply ≡ ok stale → (well_formed t ≡ true) × (i < t.count) × (v ≢ (slot_at t i).life)
  told_apart p = told_at (locate (fits by_index i) t) refl (ap (λ (o : Outcome). o.reply) (sym (by_slot e t)) ∙ p)

  -- an end that leaves its slot, by what it answers there: in every table, and 8 and 1 aside
  module _ (r : Reply) (there : end_at e t i ≡ record { reply = r; woken = Nobody; slot = slot_at t i; share = Untouched }) where
    end_quiet : run end t ≡ unmoved (run end t).reply t
    end_quiet = rw (by_slot e t) (quiet t i (end_at e t) r there)

    end_answered : well_formed t ≡ true → i < t.count → run end t ≡ unmoved r t
    end_answered w h = by_slot e t ∙ answered t i (end_at e t) r there w h

pub stale_end : StaleEnd
unfolding StaleEnd
stale_end i v end e t = (
  λ n. end_quiet e t (ok stale) (end_stale e t i n),
  λ w h n. ap (λ (o : Outcome). o.reply) (end_answered e t (ok stale) (end_stale e t i n) w h),
  told_apart e t,
)

-- ---- what was handed out is of a slot in its life

abbrev Of : ConnectionManager → ℕ → ℕ → Type 0
Of t i v = (i < t.count) × (v ≡ (slot_at t i).life)

module _ (t : ConnectionManager) (i v : ℕ) (vs : List ℕ) where
  -- by what the search found: where the answer has values, they name the slot that was found, and its life
  handed_at : (test : Test) (none : Reply) (at : ℕ → Local) → none.number ≢ 0
      → ((j : ℕ) → (at j).reply ≡ ok vs → (j ≡ i) × (v ≡ (slot_at t j).life))
      → (f : Located) → locate test t ≡ f → (settle none at t f).reply ≡ ok vs → Of t i v
  handed_at test none at n z Setup q e = absurd (omega (arith, ap (λ (r : Reply). r.number) e))
  handed_at test none at n z Absent q e = absurd (n (ap (λ (r : Reply). r.number) e))
  handed_at test none at n z (At j) q e =
      let p = z j e in
      (omega (arith, p.0, (located test t j q).1), p.1 ∙ ap (λ (k : ℕ). (slot_at t k).life) p.0)

-- an answer with a number other than 0 has handed out nothing
refused_none : {X : Type 0} {vs : List ℕ} {r : Reply} → r.number ≢ 0 → r ≡ ok vs → X
refused_none n e = absurd (n (ap (λ (r : Reply). r.number) e))

module _ (t : ConnectionManager) where
  handed : {c : Call} {vs : List ℕ} {i v : ℕ} → HandsOut c vs i v → (run c t).reply ≡ ok vs → Of t i v
  handed (HandsOut.a_lock n h i v) e =
      handed_at t i v _ (fits by_live n) _ (done poll_acquire_acl_send_lock t) (omega arith)
      (λ j p.
      split (slot_at t j).acl_send_locked
      (λ f. refused_none (omega arith) (rw f at p))
      (λ f. let xs = ap (λ (r : Reply). r.values) (rw f at p) in (cc, cc)))
      (locate (fits by_live n) t) refl e
  handed (HandsOut.a_grant n j w p h q i v) e =
      handed_at t i v _ (fits by_live n) _ (done (poll_request_to_send j w p) t) (omega arith)
      (λ j k.
      split (leb p (slot_at t j).link_credits)
      (λ f. let xs = ap (λ (r : Reply). r.values) (rw f at k) in (cc, cc))
      (λ f. refused_none (omega arith) (rw f at k)))
      (locate (fits by_live n) t) refl e
  handed (HandsOut.a_ticket i h r v) e =
      handed_at t i v _ requests _ (λ j. ticket_at j (slot_at t j)) (omega arith)
      (λ j p. let xs = ap (λ (r : Reply). r.values) p in (cc, cc))
      (locate requests t) refl e
  handed (HandsOut.a_pool_grant n p h q i v) e =
      handed_at t i v _ (fits by_live n) _ (λ j. asked_at t.count p j (slot_at t j) t.pool) (omega arith)
      (λ j k.
      split (ltb t.pool.packets p)
      (λ f. refused_none (omega arith) (rw f at k))
      (λ f.
      split (eqb p 0)
      (λ g. let xs = ap (λ (r : Reply). r.values) (rw (f, g) at k) in (cc, cc))
      (λ g.
      split (may_draw t.count j p (joined j t.pool))
      (λ d. let xs = ap (λ (r : Reply). r.values) (rw (f, g, d) at k) in (cc, cc))
      (λ d. refused_none (omega arith) (rw (f, g, d) at k)))))
      (locate (fits by_live n) t) refl e

  -- and takes no slot
  taken_none : {c : Call} {vs : List ℕ} {i v : ℕ} → HandsOut c vs i v → (k : ℕ) → taken_by c t k ≡ 0
  taken_none (HandsOut.a_lock n h i v) k = refl
  taken_none (HandsOut.a_grant n j w p h q i v) k = refl
  taken_none (HandsOut.a_ticket i h r v) k = refl
  taken_none (HandsOut.a_pool_grant n p h q i v) k = refl

-- and of the slot's life after more calls: what it was, and how often the slot was taken
module _ (t : ConnectionManager) (w : Sound t) {c : Call} {vs : List ℕ} {i v : ℕ} (o : HandsOut c vs i v) (e : (run c t).reply ≡ ok vs) (cs : List Call) where
  life_since : (slot_at (after cs (run c t).table) i).life ≡ v + taken_in cs (run c t).table i
  life_since =
      let of : Of t i v = handed t o e in
      let own : v ≡ (slot_at t i).life = of.1 in
      omega (arith, own, after_life cs (run c t).table (run_sound c t w) i (omega (arith, run_count c t, of.0)), run_life t w i of.0 c, taken_none t o i)

pub handed_out : HandedOut
unfolding HandedOut
handed_out t c vs i v o e =
    let of = handed t o e in (
      of.0,
      of.1,
      λ r cs n end d p. (told_apart d (after cs (run c t).table) p).2 (omega (arith, n, life_since t (reached_sound t r) o e cs)),
    )

pub late_end : LateEnd
unfolding LateEnd
late_end t r c vs i v o e cs n end d =
    end_answered d (after cs u) (ok stale) (end_stale d (after cs u) i other)
    (well_formed_lem _ (after_sound cs u (run_sound c t w)).formed)
    (omega (arith, after_count cs u, run_count c t, (handed t o e).0))
  where
    u : ConnectionManager
    u = (run c t).table

    w : Sound t
    w = reached_sound t r

    other : v ≢ (slot_at (after cs u) i).life
    other p =
        n
        (omega (arith, p, life_since t w o e cs))

-- ---- a closed slot

closed_state : (k : ConnectionState) → is_open k ≡ false → k ≡ Disconnected
closed_state Disconnected e = refl
closed_state (DisconnectRequest r) e = absurd (false≢true (sym e))
closed_state (Disconnecting r) e = absurd (false≢true (sym e))
closed_state Connecting e = absurd (false≢true (sym e))
closed_state Connected e = absurd (false≢true (sym e))

pub closed_end : ClosedEnd
unfolding ClosedEnd
closed_end i v end e t c =
    let there = end_closed e t i (closed_state (slot_at t i).state c) in (
      end_quiet e t _ there,
      λ w h. ap (λ (o : Outcome). o.reply) (end_answered e t _ there w h),
    )

-- ---- no per-link call opens a closed slot

stored_state : (e : ConnectionEvent) (s : ConnectionStorage) → (stored e s).state ≡ s.state
stored_state (event.Disconnected v) s = refl
stored_state (event.PhyUpdated a b) s = refl
stored_state (event.ConnectionParamsUpdated a b c) s = refl
stored_state (event.SubratingParamsUpdated a b c d) s = refl
stored_state (event.DataLengthUpdated a b c d) s = refl
stored_state (event.ConnectionRateChanged a b c d e) s = refl

asked_closed : (r : DisconnectReason) (u : ConnectionStorage) → u.state ≡ Disconnected → (requested r u).slot.state ≡ Disconnected
asked_closed r u c = split (is_connected u.state) (λ f. absurd (false≢true (ap is_connected (sym c) ∙ f))) (λ f. rw f c)

module _ (s : ConnectionStorage) (c : s.state ≡ Disconnected) where
  abbrev Closed : Local → Type 0
  Closed l = l.slot.state ≡ Disconnected

  stays_raised : (vs : List ℕ) → Closed (raised_ref vs s)
  stays_raised vs = either Closed (eqb s.refcount 255) _ _ c c

  stays_credited : (n i : ℕ) → Closed (credited n i s)
  stays_credited n i = either Closed (ltb (s.link_credits + n) (2 ^ 32)) _ _ c c

  stays_in_life : (v : ℕ) (l : Local) → Closed l → Closed (in_life v s l)
  stays_in_life v l q = either Closed (eqb v s.life) l (accept stale s) q c

  stays_closed : (op : Op) (d i : ℕ) → Closed (local op d i s)
  stays_closed get_connected_handle d i = stays_raised (i ∷ [])
  stays_closed inc_ref d i = stays_raised []
  stays_closed dec_ref d i =
      either Closed (eqb s.refcount 0) _ _ c (either Closed (eqb (s.refcount - 1) 0) _ _ (asked_closed RemoteUserTerminatedConn (set_refcount s (s.refcount - 1)) c) c)
  stays_closed (request_disconnect r) d i = asked_closed r s c
  stays_closed (request_handle_disconnect r) d i = asked_closed r s c
  stays_closed withdraw_disconnect d i = rw c
  stays_closed (confirm h v r) d i = stays_in_life v _ (rw c)
  stays_closed (disconnected v) d i = refl
  stays_closed (post_handle_event e) d i = stored_state e s ∙ c
  stays_closed next d i = c
  stays_closed poll_acquire_acl_send_lock d i = either Closed s.acl_send_locked _ _ c c
  stays_closed (unlock_acl_send h v) d i = stays_in_life v _ (rw c)
  stays_closed (poll_request_to_send j v n) d i = either Closed (leb n s.link_credits) _ _ c c
  stays_closed (grant_end h v n) d i = stays_in_life v _ (rw c)
  stays_closed (confirm_sent n) d i = stays_credited n i
  stays_closed (has_link_credits n) d i = c
  stays_closed (exchange_att_mtu m) d i = c
  stays_closed get_att_mtu_handle d i = c
  stays_closed (negotiate_att_mtu m) d i = c
  stays_closed get_stored_att_mtu d i = c
  stays_closed acquire_indication_slot d i = rw c
  stays_closed release_indication_slot d i = c
  stays_closed signal_indication_confirmation d i = c
  stays_closed wait_indication_confirmation d i = either Closed s.indication_cfm_received _ _ c (rw c)

link_closed : (t : ConnectionManager) → Sound t → (i : ℕ) → (slot_at t i).state ≡ Disconnected → (op : Op) (n : ℕ)
    → (slot_at (run (on_link op n) t).table i).state ≡ Disconnected
link_closed t w i c op n = go (locate (fits (way_of op) n) t) refl
  where
    go : (f : Located) → locate (fits (way_of op) n) t ≡ f
        → (slot_at (settle (absent op t.default_att_mtu) (done op t) t f).table i).state ≡ Disconnected
    go Setup e = c
    go Absent e = c
    go (At j) e =
        put_each t j (done op t j).slot (λ u. u.state ≡ Disconnected) i
        (λ q. stays_closed (slot_at t j) (ap (λ (k : ℕ). (slot_at t k).state) (sym q) ∙ c) op t.default_att_mtu j) c
        (omega (arith, (located _ t j e).1, w.places, w.formed.most))

trace_closed : (start : ConnectionManager) (es : Trace) (t : ConnectionManager) → Sound t → (i : ℕ) → (slot_at t i).state ≡ Disconnected
    → (slot_at (table_from start es t) i).state ≡ Disconnected
trace_closed start [] t w i c = c
trace_closed start (e ∷ es) t w i c =
    trace_closed start es (run (call_of start e) t).table (run_sound (call_of start e) t w) i (link_closed t w i c e.1 _)

trace_life : (start : ConnectionManager) (es : Trace) (t : ConnectionManager) → Sound t → (i : ℕ) → i < t.count
    → Sound (table_from start es t) × ((table_from start es t).count ≡ t.count) × ((slot_at (table_from start es t) i).life ≡ (slot_at t i).life)
trace_life start [] t w i h = (w, refl, refl)
trace_life start (e ∷ es) t w i h =
    let c = run_count (call_of start e) t in
    let l = trace_life start es (run (call_of start e) t).table (run_sound (call_of start e) t w) i (omega (arith, c)) in
    (l.0, l.1 ∙ c, l.2 ∙ link_life t w i h e.1 _)

pub end_in_trace : EndInTrace
unfolding EndInTrace
end_in_trace start r es i h v end e = (
  λ n. end_answered e u (ok stale) (end_stale e u i (λ p. n (p ∙ l.2))) formed here,
  λ c.
      end_answered e u _ (end_closed e u i (trace_closed start es start sound i (closed_state (slot_at start i).state c))) formed here
      ∙ ap (λ (n : ℕ). unmoved (cond (eqb v n) (own_reply e) (ok stale)) u) l.2,
)
  where
    u : ConnectionManager
    u = end_table start es

    sound : Sound start
    sound = reached_sound start r

    l : Sound u × (u.count ≡ start.count) × ((slot_at u i).life ≡ (slot_at start i).life)
    l = trace_life start es start sound i h

    formed : well_formed u ≡ true
    formed = well_formed_lem u l.0.formed

    here : i < u.count
    here = omega (arith, l.1)

-- ---- beside the Rust

module _ (t : ConnectionManager) (w : Sound t) (i : ℕ) (link : Link t i) (only : OnlyHandle t i) where
  as_before : (at : ℕ → ConnectionStorage → Local) (op : Op) → way_of op ≡ by_index
      → done op t i ≡ cond (is_live (slot_at t i).state) (at i (slot_at t i)) (accept [] (slot_at t i))
      → run (on_link op i) t ≡ by_handle (slot_at t i).handle at t
  as_before at op b e =
      rw (b, at_index t i w.formed link.0, own_slot t t (under_start t w) i link only by_live, e)
      (split (is_live (slot_at t i).state) (λ f. rw f) (λ f. rw f (ap (unmoved (ok [])) (put_same t i))))

-- a ticket, by what the search found
ticket_before : (t : ConnectionManager) (i h : ℕ) (r : DisconnectReason) (f : Located) → locate (fits by_index i) t ≡ f
    → settle (refusal Refusal.Index) (done (confirm h (slot_at t i).life r) t) t f
    ≡ settle (refusal Refusal.Index) (λ j. confirmed r (slot_at t j)) t f
ticket_before t i h r Setup q = refl
ticket_before t i h r Absent q = refl
ticket_before t i h r (At j) q =
    rw (eqb-true j i (located (fits by_index i) t j q).2, eq-eqb (slot_at t i).life (slot_at t i).life refl)

pub as_by_handle : AsByHandle
unfolding AsByHandle
as_by_handle = (
  λ t r i link only h.
      let same = eq-eqb (slot_at t i).life (slot_at t i).life refl in (
        as_before t (reached_sound t r) i link only unlocked (unlock_acl_send h (slot_at t i).life) refl (rw same),
        λ n. as_before t (reached_sound t r) i link only (grant_ended n) (grant_end h (slot_at t i).life n) refl (rw same),
      ),
  λ t i h r. ticket_before t i h r (locate (fits by_index i) t) refl,
)
