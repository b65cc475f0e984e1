-- Refused calls leave behind what document 01's table names: the proof of `Refusals`. Assumes nothing.
use Rattle.std.specs.Prelude.{ℕ, ◌≡◌, refl, ◌≢◌, ◌⊎◌, Bool, true, false, cond, List, [], ◌∷◌, eqb, leb, ltb}
use Rattle.std.proofs.Common.{sym, ap, ◌∙◌, inl, inr, ⊎_elim, arith}
use Rattle.std.proofs.lemmas.Bool.{eqb-false}
use Rattle.state.specs.State.{is_live}
use Rattle.pool.specs.declared.Share.TheVariants.{Untouched}
use Rattle.pool.specs.Pool.{joined, may_draw}
use Rattle.slot.specs.declared.Address.{Address}
use Rattle.slot.specs.declared.LeConnRole.{LeConnRole}
use Rattle.slot.specs.declared.ConnParams.{ConnParams}
use Rattle.slot.specs.declared.ConnectionStorage.{ConnectionStorage}
use Rattle.slot.specs.declared.ConnectionManager.{ConnectionManager}
use Rattle.slot.specs.declared.Located.{Located}
use Rattle.slot.specs.declared.Located.TheVariants.{Setup, Absent, At}
use Rattle.model.specs.Answer.{Refusal, Reply, refusal, accept, Local, Outcome}
use Rattle.model.specs.Find.{Test, slot_at, well_formed, locate, by_index, by_live, fits}
use Rattle.model.specs.Link.{Op, get_connected_handle, inc_ref, dec_ref, request_disconnect, request_handle_disconnect, withdraw_disconnect, confirm, disconnected, post_handle_event, next, poll_acquire_acl_send_lock, unlock_acl_send, poll_request_to_send, grant_end, confirm_sent, has_link_credits, exchange_att_mtu, get_att_mtu_handle, negotiate_att_mtu, get_stored_att_mtu, acquire_indication_slot, release_indication_slot, signal_indication_confirmation, wait_indication_confirmation, way_of, absent, blocked, raised_ref}
use Rattle.model.specs.Calls.{Call, on_link, connects, poll_accept_call, get_connection_by_peer_address_call, poll_disconnecting_call, set_link_credits_call, total_lost_call, poll_request_from_pool_call, pool_confirm_sent_call, pool_grant_end_call, grant_confirm, placed, settle, done, is_free, is_last_life, connected_at, accepts, accepted_at, has_peer, requests, set_credits, total_lost, pool_granted, drawn_if, asked_at, returned_at, pool_ended_at, ticket_at}
use Rattle.model.proofs.Laws.{split, either, put_same}
use Rattle.model.proofs.Pooled.{Pooled, pooled}
use Rattle.model_theorems.specs.Refusals.{Refusals, LeftBehind, LeftByBlocked, LeftByWait, LeftByPending, sends}
use Rattle.model_theorems.proofs.Keep.{Kept, kept}

-- a number that is neither 4 nor 5, and a table that is the same
same : {c : Call} {t : ConnectionManager} {n : ℕ} {u : ConnectionManager} → n ≢ 4 → n ≢ 5 → u ≡ t → LeftBehind c t n u
same a b e = record { unchanged = λ x y z. e; out_of_memory = λ f. absurd (a f); pending = λ f. absurd (b f) }

-- nothing was refused
nothing : {c : Call} {t : ConnectionManager} {n : ℕ} {u : ConnectionManager} → n ≡ 0 → LeftBehind c t n u
nothing e =
    record {
      unchanged = λ x. absurd (x e);
      out_of_memory = λ f. absurd (omega arith);
      pending = λ f. absurd (omega arith);
    }

-- a slot put back as it was is no change
put_back : (t : ConnectionManager) (i : ℕ) (l : Local) → l.slot ≡ slot_at t i → l.share ≡ Untouched → (placed t i l).table ≡ t
put_back t i l p q = rw (p, q) (put_same t i)

-- ---- a call on a link

-- where no slot fits: never 4 nor 5
absent_number : (op : Op) (d : ℕ) → ((absent op d).number ≢ 4) × ((absent op d).number ≢ 5)
absent_number get_connected_handle d = (omega arith, omega arith)
absent_number inc_ref d = (omega arith, omega arith)
absent_number dec_ref d = (omega arith, omega arith)
absent_number (request_disconnect r) d = (omega arith, omega arith)
absent_number (request_handle_disconnect r) d = (omega arith, omega arith)
absent_number withdraw_disconnect d = (omega arith, omega arith)
absent_number (confirm h v r) d = (omega arith, omega arith)
absent_number (disconnected v) d = (omega arith, omega arith)
absent_number (post_handle_event e) d = (omega arith, omega arith)
absent_number next d = (omega arith, omega arith)
absent_number poll_acquire_acl_send_lock d = (omega arith, omega arith)
absent_number (unlock_acl_send h v) d = (omega arith, omega arith)
absent_number (poll_request_to_send j v n) d = (omega arith, omega arith)
absent_number (grant_end h v n) d = (omega arith, omega arith)
absent_number (confirm_sent n) d = (omega arith, omega arith)
absent_number (has_link_credits n) d = (omega arith, omega arith)
absent_number (exchange_att_mtu m) d = (omega arith, omega arith)
absent_number get_att_mtu_handle d = (omega arith, omega arith)
absent_number (negotiate_att_mtu m) d = (omega arith, omega arith)
absent_number get_stored_att_mtu d = (omega arith, omega arith)
absent_number acquire_indication_slot d = (omega arith, omega arith)
absent_number release_indication_slot d = (omega arith, omega arith)
absent_number signal_indication_confirmation d = (omega arith, omega arith)
absent_number wait_indication_confirmation d = (omega arith, omega arith)

module _ (op : Op) (h : ℕ) (t : ConnectionManager) where
  abbrev after : Located → Outcome
  after f = settle (absent op t.default_att_mtu) (done op t) t f

  -- the call is this one and no other
  only_this : sends op ≡ false → (o : Op) (n : ℕ) → on_link op h ≡ on_link o n → sends o ≡ false
  only_this e o n p = let q : op ≡ o = cc in rw (← q) e

  no_ask : (g k : ℕ) → on_link op h ≢ poll_request_from_pool_call g k
  no_ask g k p = let z : ◌≡◌ {A = ℕ} 0 1 = cc in omega arith

  link_left : (f : Located) → locate (fits (way_of op) h) t ≡ f → LeftBehind (on_link op h) t (after f).reply.number (after f).table
  link_left Setup e = same (omega arith) (omega arith) refl
  link_left Absent e =
      let a = absent_number op t.default_att_mtu in same a.0 a.1 refl
  link_left (At i) e =
      record {
        unchanged = λ x y z. put_back t i (done op t i) (k.unchanged x y z) (q.refused x);
        out_of_memory =
            λ x.
            let p = k.out_of_memory x in (
              p.0,
              h,
              i,
              ap (λ (o : Op). on_link o h) p.1,
              ap (λ (o : Op). locate (fits (way_of o) h) t) (sym p.1) ∙ e,
              rw (p.2, q.refused (λ z. omega (arith, x, z))),
            );
        pending = λ x. blocks (k.pending x) (q.refused (λ z. omega (arith, x, z)));
      }
    where
      k : Kept op (slot_at t i) (done op t i)
      k = kept op _ i (slot_at t i)

      q : Pooled op (slot_at t i) (done op t i)
      q = pooled op _ i (slot_at t i)

      blocks : (done op t i).slot ≡ cond (sends op) (blocked (slot_at t i)) (slot_at t i) → (done op t i).share ≡ Untouched
          → LeftByBlocked (on_link op h) t (done op t i).reply.number (placed t i (done op t i)).table
          ⊎ (LeftByWait (on_link op h) t (done op t i).reply.number (placed t i (done op t i)).table
          ⊎ LeftByPending (on_link op h) t (done op t i).reply.number (placed t i (done op t i)).table)
      blocks p r =
          split (sends op)
          (λ f. let p' = rw f at p in inl (op, h, i, refl, f, e, rw (p', r)))
          (λ f. let p' = rw f at p in inr (inr (only_this f, no_ask, put_back t i (done op t i) p' r)))

-- ---- the other calls

-- those that answer 5, none a lock or a grant
data Other : Call → Type 0 where
  an_accept : {r : LeConnRole} {ps : List Address} → Other (poll_accept_call r ps)
  a_ticket : Other poll_disconnecting_call

no_link : {c : Call} → Other c → (op : Op) (h : ℕ) → c ≡ on_link op h → sends op ≡ false
no_link an_accept op h p = let z : ◌≡◌ {A = ℕ} 0 1 = cc in absurd (omega arith)
no_link a_ticket op h p = let z : ◌≡◌ {A = ℕ} 0 1 = cc in absurd (omega arith)

no_ask_other : {c : Call} → Other c → (h k : ℕ) → c ≢ poll_request_from_pool_call h k
no_ask_other an_accept h k p = let z : ◌≡◌ {A = ℕ} 0 1 = cc in omega arith
no_ask_other a_ticket h k p = let z : ◌≡◌ {A = ℕ} 0 1 = cc in omega arith

-- 5, and a table that is the same
waiting : {c : Call} {t u : ConnectionManager} → Other c → u ≡ t → LeftBehind c t 5 u
waiting o e =
    record {
      unchanged = λ x y z. absurd (z refl);
      out_of_memory = λ f. absurd (omega arith);
      pending = λ f. inr (inr (no_link o, no_ask_other o, e));
    }

-- accepted, or refused, neither 4 nor 5, with the slot as it was
abbrev OrSame : ConnectionStorage → Local → Type 0
OrSame s l = (l.reply.number ≡ 0) ⊎ ((l.reply.number ≢ 4) × (l.reply.number ≢ 5) × (l.slot ≡ s) × (l.share ≡ Untouched))

accepted_or : (i : ℕ) (s : ConnectionStorage) → OrSame s (accepted_at i s)
accepted_or i s = split (eqb s.refcount 0) (λ f. rw f (inl refl)) (λ f. rw f (inr (omega arith, omega arith, refl, refl)))

connected_or : (h : ℕ) (a : Address) (r : LeConnRole) (p : ConnParams) (c : ℕ) (s : ConnectionStorage) → OrSame s (connected_at h a r p c s)
connected_or h a r p c s = split (is_last_life s) (λ f. rw f (inr (omega arith, omega arith, refl, refl))) (λ f. rw f (inl refl))

raised_or : (i : ℕ) (s : ConnectionStorage) → OrSame s (raised_ref (i ∷ []) s)
raised_or i s = split (eqb s.refcount 255) (λ f. rw f (inr (omega arith, omega arith, refl, refl))) (λ f. rw f (inl refl))

module _ (c : Call) (t : ConnectionManager) (test : Test) (none : Reply) (at : ℕ → Local)
    (nowhere : LeftBehind c t none.number t) (there : (i : ℕ) → OrSame (slot_at t i) (at i)) where
  at_left : (i : ℕ) → LeftBehind c t (at i).reply.number (placed t i (at i)).table
  at_left i =
      ⊎_elim
      (λ p. nothing p)
      (λ (p : ((at i).reply.number ≢ 4) × ((at i).reply.number ≢ 5) × ((at i).slot ≡ slot_at t i) × ((at i).share ≡ Untouched)).
      same p.0 p.1 (put_back t i (at i) p.2 p.3))
      (there i)

  other_left : (f : Located) → LeftBehind c t (settle none at t f).reply.number (settle none at t f).table
  other_left Setup = same (omega arith) (omega arith) refl
  other_left Absent = nowhere
  other_left (At i) = at_left i

-- ---- the calls on the pool

returned_or : (k : ℕ) (s : ConnectionStorage) → OrSame s (returned_at k s)
returned_or k s =
    either (OrSame s) (leb k s.pool_held) _ _ (inl refl) (inr (omega arith, omega arith, refl, refl))

ended_or : (v k : ℕ) (s : ConnectionStorage) → OrSame s (pool_ended_at v k s)
ended_or v k s =
    either (OrSame s) (eqb v s.life) _ _
    (either (OrSame s) (is_live s.state) _ _ (returned_or k s) (inr (omega arith, omega arith, refl, refl)))
    (inl refl)

module _ (h k : ℕ) (t : ConnectionManager) where
  abbrev asked : ℕ → Local
  asked i = asked_at t.count k i (slot_at t i) t.pool

  abbrev AskLeft : ℕ → Local → Type 0
  AskLeft i l = LeftBehind (poll_request_from_pool_call h k) t l.reply.number (placed t i l).table

  asked_left : (i : ℕ) → locate (fits by_live h) t ≡ At i → AskLeft i (asked i)
  asked_left i e =
      either (AskLeft i) (ltb t.pool.packets k) _ _ (same (omega arith) (omega arith) (put_same t i)) (by_packets (eqb k 0) refl)
    where
      by_packets : (b : Bool) → eqb k 0 ≡ b
          → AskLeft i
          (cond b (accept (pool_granted k i (slot_at t i)) (slot_at t i))
          (drawn_if (may_draw t.count i k (joined i t.pool)) k i (slot_at t i)))
      by_packets true z = nothing refl
      by_packets false z =
          either (AskLeft i) (may_draw t.count i k (joined i t.pool)) _ _ (nothing refl)
          (record {
            unchanged = λ x y n. absurd (n refl);
            out_of_memory = λ f. absurd (omega arith);
            pending = λ f. inr (inl (h, k, i, refl, omega (arith, eqb-false k 0 z), e, refl));
          })

  ask_left : (f : Located) → locate (fits by_live h) t ≡ f
      → let o = settle (refusal Refusal.Disconnected) asked t f in
      LeftBehind (poll_request_from_pool_call h k) t o.reply.number o.table
  ask_left Setup e = same (omega arith) (omega arith) refl
  ask_left Absent e = same (omega arith) (omega arith) refl
  ask_left (At i) e = asked_left i e

credits_left : (c : ℕ) (t : ConnectionManager)
    → LeftBehind (set_link_credits_call c) t (set_credits c t).reply.number (set_credits c t).table
credits_left c t = split (well_formed t) (λ f. rw f (nothing refl)) (λ f. rw f (same (omega arith) (omega arith) refl))

total_left : (t : ConnectionManager) → LeftBehind total_lost_call t (total_lost t).reply.number (total_lost t).table
total_left t = split (well_formed t) (λ f. rw f (nothing refl)) (λ f. rw f (same (omega arith) (omega arith) refl))

-- ---- every call

pub refusals : Refusals
unfolding Refusals
refusals (on_link op h) t = link_left op h t (locate (fits (way_of op) h) t) refl
refusals (connects h a r p) t =
    other_left _ t is_free _ _ (same (omega arith) (omega arith) refl) (λ i. connected_or h a r p _ (slot_at t i)) (locate is_free t)
refusals (poll_accept_call r ps) t =
    other_left _ t (accepts r ps) _ _ (waiting an_accept refl) (λ i. accepted_or i (slot_at t i)) (locate (accepts r ps) t)
refusals (get_connection_by_peer_address_call a) t =
    other_left _ t (has_peer a) _ _ (same (omega arith) (omega arith) refl) (λ i. raised_or i (slot_at t i)) (locate (has_peer a) t)
refusals poll_disconnecting_call t =
    other_left _ t requests _ (λ i. ticket_at i (slot_at t i)) (waiting a_ticket refl) (λ i. inl refl) (locate requests t)
refusals (set_link_credits_call c) t = credits_left c t
refusals total_lost_call t = total_left t
refusals (poll_request_from_pool_call h k) t = ask_left h k t (locate (fits by_live h) t) refl
refusals (pool_confirm_sent_call h k) t =
    other_left _ t (fits by_live h) _ _ (same (omega arith) (omega arith) refl) (λ i. returned_or k (slot_at t i)) (locate (fits by_live h) t)
refusals (pool_grant_end_call g) t =
    other_left _ t (fits by_index g.index) _ _ (same (omega arith) (omega arith) refl)
    (λ i. ended_or g.life g.packets (slot_at t i)) (locate (fits by_index g.index) t)
refusals (grant_confirm g n) t = nothing refl
