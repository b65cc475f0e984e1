-- The lost counts are what `LostByLink` says. Assumes nothing.
use Rattle.std.specs.Prelude.{ℕ, zero, suc, ◌+◌, ◌%◌, ◌^◌, ◌<◌, ◌≤◌, ◌≡◌, refl, Bool, true, false, cond, not, ◌&&◌, List, [], ◌∷◌, length, get_or, eqb}
use Rattle.std.proofs.Common.{sym, ap, ◌∙◌, subst, arith, get_or-set_other, eq-eqb, ne_eqb}
use Rattle.std.proofs.lemmas.List.{get_or-replicate}
use Rattle.slot.specs.declared.Address.{Address}
use Rattle.slot.specs.declared.LeConnRole.{LeConnRole}
use Rattle.slot.specs.declared.ConnParams.{ConnParams}
use Rattle.slot.specs.declared.ConnectionStorage.{ConnectionStorage}
use Rattle.slot.specs.declared.ConnectionManager.{ConnectionManager}
use Rattle.slot.specs.declared.Located.{Located}
use Rattle.slot.specs.declared.Located.TheVariants.{Setup, Absent, At}
use Rattle.slot.specs.Fresh.{fresh_slot, blank_slot}
use Rattle.shuffle.specs.Shuffle.{by_key}
use Rattle.model.specs.Answer.{Reply, Local, raised}
use Rattle.model.specs.Find.{Test, slot_at, well_formed, locate, by_index, by_live, fits, lost_of}
use Rattle.model.specs.Link.{Op, way_of, absent, raised_ref}
use Rattle.model.specs.Calls.{Call, on_link, connects, poll_accept_call, get_connection_by_peer_address_call, poll_disconnecting_call, set_link_credits_call, total_lost_call, poll_request_from_pool_call, pool_confirm_sent_call, pool_grant_end_call, grant_confirm, run, put, settle, done, is_free, is_last_life, connected_at, accepts, accepted_at, has_peer, requests, set_credits, ticket_at}
use Rattle.model.specs.History.{Reached, new, after, setup_ok, fresh_table}
use Rattle.model.proofs.Laws.{split, well_formed_lem, located}
use Rattle.model_theorems.specs.Lost.{LostByLink, queues, is_full, is_at, lost_after, lost_over, lost_since, sum}
use Rattle.model_theorems.proofs.Keep.{kept}
use Rattle.model_theorems.specs.Sound.{Sound}
use Rattle.model_theorems.proofs.Reach.{put_here, put_each, PoolKept, asked_kept, returned_kept, ended_kept, credits_at, run_sound, new_sound, reached_sound}

raised_mod : (b : Bool) (n : ℕ) → raised b (n % 2 ^ 32) ≡ cond b (n + 1) n % 2 ^ 32
raised_mod true n = omega arith
raised_mod false n = refl

cond_mod : (b : Bool) (n : ℕ) → cond b 0 (n % 2 ^ 32) ≡ cond b 0 n % 2 ^ 32
cond_mod true n = refl
cond_mod false n = refl

both : (a b : Bool) (m n : ℕ) → cond a (cond b m n) n ≡ cond (a && b) m n
both true b m n = refl
both false b m n = refl

-- ---- one call

module _ (t : ConnectionManager) (w : Sound t) (i n : ℕ) (p : (slot_at t i).lost ≡ n % 2 ^ 32) where
  within : (j : ℕ) → j < t.count → j < length t.connections
  within j g = omega (arith, w.places, w.formed.most)

  -- slot j put back with the count m
  after_put : (j : ℕ) (s : ConnectionStorage) (m : ℕ) → j < t.count → (i ≡ j → s.lost ≡ m % 2 ^ 32)
      → (slot_at (put t j s) i).lost ≡ cond (eqb i j) m n % 2 ^ 32
  after_put j s m g q =
      by_key (λ (k : ℕ). k) i j
      (λ e.
      rw (eq-eqb i j e)
      (ap (λ (k : ℕ). (slot_at (put t j s) k).lost) e ∙ ap (λ (u : ConnectionStorage). u.lost) (put_here t j s (within j g)) ∙ q e))
      (λ m'.
      rw (ne_eqb i j m')
      (ap (λ (u : ConnectionStorage). u.lost) (get_or-set_other t.connections j i s blank_slot m') ∙ p))

  on_link_lost : (op : Op) (h : ℕ) (f : Located) → locate (fits (way_of op) h) t ≡ f
      → (slot_at (settle (absent op t.default_att_mtu) (done op t) t f).table i).lost
      ≡ cond (is_at i f && (queues op && is_full (slot_at t i))) (n + 1) n % 2 ^ 32
  on_link_lost op h Setup e = p
  on_link_lost op h Absent e = p
  on_link_lost op h (At j) e =
      after_put j (done op t j).slot (cond lossy (n + 1) n) (located _ t j e).1
      (λ q.
      subst (λ k. (done op t k).slot.lost ≡ cond lossy (n + 1) n % 2 ^ 32) q
      ((kept op _ i (slot_at t i)).lost ∙ ap (raised lossy) p ∙ raised_mod lossy n))
      ∙ ap (λ (k : ℕ). k % 2 ^ 32) (both (eqb i j) lossy (n + 1) n)
    where
      lossy : Bool
      lossy = queues op && is_full (slot_at t i)

  connect_lost : (at : ℕ → Local)
      → ((j : ℕ) → (at j).slot.lost ≡ cond (not (is_last_life (slot_at t j))) 0 (slot_at t j).lost)
      → (none : Reply) (f : Located) → locate is_free t ≡ f
      → (slot_at (settle none at t f).table i).lost ≡ cond (is_at i f && not (is_last_life (slot_at t i))) 0 n % 2 ^ 32
  connect_lost at z none Setup e = p
  connect_lost at z none Absent e = p
  connect_lost at z none (At j) e =
      after_put j (at j).slot (cond fresh 0 n) (located is_free t j e).1
      (λ q.
      subst (λ k. (at k).slot.lost ≡ cond fresh 0 n % 2 ^ 32) q
      (z i ∙ ap (cond fresh 0) p ∙ cond_mod fresh n))
      ∙ ap (λ (k : ℕ). k % 2 ^ 32) (both (eqb i j) fresh 0 n)
    where
      fresh : Bool
      fresh = not (is_last_life (slot_at t i))

  connected_lost : (h : ℕ) (a : Address) (r : LeConnRole) (q : ConnParams) (c : ℕ) (s : ConnectionStorage)
      → (connected_at h a r q c s).slot.lost ≡ cond (not (is_last_life s)) 0 s.lost
  connected_lost h a r q c s = split (is_last_life s) (λ f. rw f) (λ f. rw f)

  -- a call that leaves the lost count of the slot that it is about
  other_lost : (test : Test) (none : Reply) (at : ℕ → Local) → ((j : ℕ) → (at j).slot.lost ≡ (slot_at t j).lost)
      → (f : Located) → locate test t ≡ f → (slot_at (settle none at t f).table i).lost ≡ n % 2 ^ 32
  other_lost test none at z Setup e = p
  other_lost test none at z Absent e = p
  other_lost test none at z (At j) e =
      put_each t j (at j).slot (λ u. u.lost ≡ n % 2 ^ 32) i
      (λ q. z j ∙ ap (λ (k : ℕ). (slot_at t k).lost) (sym q) ∙ p) p (within j (located test t j e).1)

  accepted_lost : (j : ℕ) (s : ConnectionStorage) → (accepted_at j s).slot.lost ≡ s.lost
  accepted_lost j s = split (eqb s.refcount 0) (λ f. rw f) (λ f. rw f)

  raised_lost : (j : ℕ) (s : ConnectionStorage) → (raised_ref (j ∷ []) s).slot.lost ≡ s.lost
  raised_lost j s = split (eqb s.refcount 255) (λ f. rw f) (λ f. rw f)

  credits_lost : (c : ℕ) → i < t.count → (slot_at (set_credits c t).table i).lost ≡ n % 2 ^ 32
  credits_lost c g =
      split (well_formed t)
      (λ f. rw f (ap (λ (u : ConnectionStorage). u.lost) (credits_at c t.count t.connections i g (within i g)) ∙ p))
      (λ f. rw f p)

  lost_kept : PoolKept (λ u. u.lost)
  lost_kept s m = (refl, refl)

  run_lost : (c : Call) → i < t.count → (slot_at (run c t).table i).lost ≡ lost_after c t i n % 2 ^ 32
  run_lost (on_link op h) g = on_link_lost op h (locate (fits (way_of op) h) t) refl
  run_lost (connects h a r q) g = connect_lost _ (λ j. connected_lost h a r q _ (slot_at t j)) _ (locate is_free t) refl
  run_lost (poll_accept_call r ps) g = other_lost (accepts r ps) _ _ (λ j. accepted_lost j (slot_at t j)) (locate (accepts r ps) t) refl
  run_lost (get_connection_by_peer_address_call a) g =
      other_lost (has_peer a) _ _ (λ j. raised_lost j (slot_at t j)) (locate (has_peer a) t) refl
  run_lost poll_disconnecting_call g = other_lost requests _ (λ j. ticket_at j (slot_at t j)) (λ j. refl) (locate requests t) refl
  run_lost (set_link_credits_call c) g = credits_lost c g
  run_lost (poll_request_from_pool_call h k) g =
      other_lost (fits by_live h) _ _ (λ j. asked_kept (λ u. u.lost) lost_kept t.count k j (slot_at t j) t.pool) (locate (fits by_live h) t) refl
  run_lost (pool_confirm_sent_call h k) g =
      other_lost (fits by_live h) _ _ (λ j. returned_kept (λ u. u.lost) lost_kept k (slot_at t j)) (locate (fits by_live h) t) refl
  run_lost (pool_grant_end_call e) g =
      other_lost (fits by_index e.index) _ _ (λ j. ended_kept (λ u. u.lost) lost_kept e.life e.packets (slot_at t j))
      (locate (fits by_index e.index) t) refl
  run_lost total_lost_call g = split (well_formed t) (λ f. rw f p) (λ f. rw f p)
  run_lost (grant_confirm q sent) g = p

-- ---- the slot count stays

settle_count : (none : Reply) (at : ℕ → Local) (t : ConnectionManager) (f : Located) → (settle none at t f).table.count ≡ t.count
settle_count none at t Setup = refl
settle_count none at t Absent = refl
settle_count none at t (At j) = refl

pub run_count : (c : Call) (t : ConnectionManager) → (run c t).table.count ≡ t.count
run_count (on_link op h) t = settle_count _ _ t (locate (fits (way_of op) h) t)
run_count (connects h a r q) t = settle_count _ _ t (locate is_free t)
run_count (poll_accept_call r ps) t = settle_count _ _ t (locate (accepts r ps) t)
run_count (get_connection_by_peer_address_call a) t = settle_count _ _ t (locate (has_peer a) t)
run_count poll_disconnecting_call t = settle_count _ (λ j. ticket_at j (slot_at t j)) t (locate requests t)
run_count (set_link_credits_call c) t = split (well_formed t) (λ f. rw f) (λ f. rw f)
run_count (poll_request_from_pool_call h k) t = settle_count _ _ t (locate (fits by_live h) t)
run_count (pool_confirm_sent_call h k) t = settle_count _ _ t (locate (fits by_live h) t)
run_count (pool_grant_end_call g) t = settle_count _ _ t (locate (fits by_index g.index) t)
run_count total_lost_call t = split (well_formed t) (λ f. rw f) (λ f. rw f)
run_count (grant_confirm q sent) t = refl

pub after_count : (cs : List Call) (t : ConnectionManager) → (after cs t).count ≡ t.count
after_count [] t = refl
after_count (c ∷ cs) t = after_count cs (run c t).table ∙ run_count c t

-- ---- a history

after_lost : (cs : List Call) (t : ConnectionManager) → Sound t → (i n : ℕ) → i < t.count → (slot_at t i).lost ≡ n % 2 ^ 32
    → (slot_at (after cs t) i).lost ≡ lost_over cs t i n % 2 ^ 32
after_lost [] t w i n g p = p
after_lost (c ∷ cs) t w i n g p =
    after_lost cs (run c t).table (run_sound c t w) i (lost_after c t i n) (omega (arith, run_count c t)) (run_lost t w i n p c g)

fresh_lost : (slots packet_mtu packets i : ℕ) → i < 16 → (slot_at (fresh_table slots packet_mtu packets) i).lost ≡ 0
fresh_lost slots packet_mtu packets i h = rw (get_or-replicate 16 i fresh_slot blank_slot (omega arith))

new_lost : (slots packet_mtu packets i : ℕ) → i < 16 → (slot_at (new slots packet_mtu packets).table i).lost ≡ 0
new_lost slots packet_mtu packets i h =
    split (setup_ok slots packet_mtu packets) (λ f. rw f (fresh_lost slots packet_mtu packets i h)) (λ f. rw f (fresh_lost 0 4 0 i h))

reached_lost : (t : ConnectionManager) (r : Reached t) (i : ℕ) → i < t.count → (slot_at t i).lost ≡ lost_since r i % 2 ^ 32
reached_lost t r i g =
    ap (λ (u : ConnectionManager). (slot_at u i).lost) (sym r.leads)
    ∙ after_lost r.calls first (new_sound r.slots r.packet_mtu r.packets r.fresh) i 0 (omega (arith, size))
    (new_lost r.slots r.packet_mtu r.packets i (omega (arith, (reached_sound t r).formed.most)))
  where
    first : ConnectionManager
    first = (new r.slots r.packet_mtu r.packets).table

    size : t.count ≡ first.count
    size = ap (λ (u : ConnectionManager). u.count) (sym r.leads) ∙ after_count r.calls first

-- ---- the total

lost_sum : (ss : List ConnectionStorage) (f : ℕ → ℕ) (n i : ℕ)
    → ((j : ℕ) → i ≤ j → j < i + n → (get_or ss j blank_slot).lost ≡ f j % 2 ^ 32) → lost_of ss n i % 2 ^ 32 ≡ sum f n i % 2 ^ 32
unfolding lost_of
lost_sum ss f zero i h = refl
lost_sum ss f (suc n) i h =
    let ih = lost_sum ss f n (i + 1) (λ j a b. h j (omega arith) (omega arith)) in
    omega (arith, h i (omega arith) (omega arith), ih)

pub lost_by_link_lem : LostByLink
unfolding LostByLink
lost_by_link_lem t r = (
  λ i g. reached_lost t r i g,
  rw (
    well_formed_lem t (reached_sound t r).formed,
    lost_sum t.connections (lost_since r) t.count 0 (λ j a b. reached_lost t r j (omega arith)),
  ),
)
