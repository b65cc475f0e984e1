-- A slot's life is what `LifeCounts` says. Assumes nothing.
use Rattle.std.specs.Prelude.{ℕ, ◌+◌, ◌^◌, ◌<◌, ◌≡◌, refl, cond, not, ◌&&◌, List, [], ◌∷◌, length, eqb, ltb}
use Rattle.std.proofs.Common.{sym, ap, ◌∙◌, subst, arith, get_or-set_other, eq-eqb, ne_eqb, ltb-true, ltb-false}
use Rattle.std.proofs.lemmas.List.{get_or-replicate}
use Rattle.std.proofs.lemmas.Bool.{eqb-false}
use Rattle.slot.specs.declared.Address.{Address}
use Rattle.slot.specs.declared.LeConnRole.{LeConnRole}
use Rattle.slot.specs.declared.ConnParams.{ConnParams}
use Rattle.slot.specs.declared.ConnectionStorage.{ConnectionStorage}
use Rattle.slot.specs.declared.ConnectionManager.{ConnectionManager}
use Rattle.slot.specs.declared.Located.{Located}
use Rattle.slot.specs.declared.Located.TheVariants.{Setup, Absent, At}
use Rattle.slot.specs.Fresh.{fresh_slot, blank_slot}
use Rattle.shuffle.specs.Shuffle.{by_key}
use Rattle.model.specs.Answer.{Reply, Local}
use Rattle.model.specs.Find.{Test, slot_at, well_formed, locate, by_index, by_live, fits}
use Rattle.model.specs.Link.{Op, way_of, raised_ref}
use Rattle.model.specs.Calls.{Call, on_link, connects, poll_accept_call, get_connection_by_peer_address_call, poll_disconnecting_call, set_link_credits_call, total_lost_call, poll_request_from_pool_call, pool_confirm_sent_call, pool_grant_end_call, grant_confirm, run, put, settle, done, is_free, is_last_life, connected_at, accepts, accepted_at, has_peer, requests, ticket_at}
use Rattle.model.specs.History.{new, after, setup_ok, fresh_table}
use Rattle.model.proofs.Laws.{split, located}
use Rattle.model_theorems.specs.Lost.{is_at}
use Rattle.life_theorems.specs.Life.{taken_by, taken_in, LifeCounts}
use Rattle.model_theorems.proofs.Keep.{kept}
use Rattle.model_theorems.specs.Sound.{Sound}
use Rattle.model_theorems.proofs.Reach.{put_here, put_each, PoolKept, asked_kept, returned_kept, ended_kept, credits_at, run_sound, new_sound, reached_sound}
use Rattle.model_theorems.proofs.Losses.{run_count, after_count}

-- ---- one call

no_more : {m n : ℕ} → m ≡ n → m ≡ n + 0
no_more p = omega (arith, p)

module _ (t : ConnectionManager) (w : Sound t) (i : ℕ) (here : i < t.count) where
  within : (j : ℕ) → j < t.count → j < length t.connections
  within j g = omega (arith, w.places, w.formed.most)

  -- a call that leaves the life of the slot that it is about
  same_life : (test : Test) (none : Reply) (at : ℕ → Local) → ((j : ℕ) → (at j).slot.life ≡ (slot_at t j).life)
      → (f : Located) → locate test t ≡ f → (slot_at (settle none at t f).table i).life ≡ (slot_at t i).life
  same_life test none at z Setup e = refl
  same_life test none at z Absent e = refl
  same_life test none at z (At j) e =
      put_each t j (at j).slot (λ u. u.life ≡ (slot_at t i).life) i
      (λ q. z j ∙ ap (λ (k : ℕ). (slot_at t k).life) (sym q)) refl (within j (located test t j e).1)

  connect_life : (at : ℕ → Local)
      → ((j : ℕ) → (at j).slot.life ≡ (slot_at t j).life + cond (not (is_last_life (slot_at t j))) 1 0)
      → (none : Reply) (f : Located) → locate is_free t ≡ f
      → (slot_at (settle none at t f).table i).life ≡ (slot_at t i).life + cond (is_at i f && not (is_last_life (slot_at t i))) 1 0
  connect_life at z none Setup e = no_more refl
  connect_life at z none Absent e = no_more refl
  connect_life at z none (At j) e =
      by_key (λ (k : ℕ). k) i j
      (λ q.
      rw (eq-eqb i j q)
      (ap (λ (k : ℕ). (slot_at (put t j (at j).slot) k).life) q
      ∙ ap (λ (u : ConnectionStorage). u.life) (put_here t j (at j).slot (within j (located is_free t j e).1))
      ∙ ap (λ (k : ℕ). (at k).slot.life) (sym q)
      ∙ z i))
      (λ n.
      rw (ne_eqb i j n)
      (no_more (ap (λ (u : ConnectionStorage). u.life) (get_or-set_other t.connections j i (at j).slot blank_slot n))))

  connected_life : (h : ℕ) (a : Address) (r : LeConnRole) (q : ConnParams) (c : ℕ) (s : ConnectionStorage)
      → (connected_at h a r q c s).slot.life ≡ s.life + cond (not (is_last_life s)) 1 0
  connected_life h a r q c s = split (is_last_life s) (λ f. rw f (no_more refl)) (λ f. rw f)

  accepted_life : (j : ℕ) (s : ConnectionStorage) → (accepted_at j s).slot.life ≡ s.life
  accepted_life j s = split (eqb s.refcount 0) (λ f. rw f) (λ f. rw f)

  raised_life : (j : ℕ) (s : ConnectionStorage) → (raised_ref (j ∷ []) s).slot.life ≡ s.life
  raised_life j s = split (eqb s.refcount 255) (λ f. rw f) (λ f. rw f)

  pub link_life : (op : Op) (h : ℕ) → (slot_at (run (on_link op h) t).table i).life ≡ (slot_at t i).life
  link_life op h =
      same_life (fits (way_of op) h) _ (done op t) (λ j. (kept op _ j (slot_at t j)).life) (locate (fits (way_of op) h) t) refl

  life_kept : PoolKept (λ u. u.life)
  life_kept s m = (refl, refl)

  pub run_life : (c : Call) → (slot_at (run c t).table i).life ≡ (slot_at t i).life + taken_by c t i
  run_life (on_link op h) = no_more (link_life op h)
  run_life (connects h a r q) = connect_life _ (λ j. connected_life h a r q _ (slot_at t j)) _ (locate is_free t) refl
  run_life (poll_accept_call r ps) =
      no_more (same_life (accepts r ps) _ _ (λ j. accepted_life j (slot_at t j)) (locate (accepts r ps) t) refl)
  run_life (get_connection_by_peer_address_call a) =
      no_more (same_life (has_peer a) _ _ (λ j. raised_life j (slot_at t j)) (locate (has_peer a) t) refl)
  run_life poll_disconnecting_call = no_more (same_life requests _ (λ j. ticket_at j (slot_at t j)) (λ j. refl) (locate requests t) refl)
  run_life (set_link_credits_call c) =
      split (well_formed t)
      (λ f. rw f (no_more (ap (λ (u : ConnectionStorage). u.life) (credits_at c t.count t.connections i here (within i here)))))
      (λ f. rw f (no_more refl))
  run_life (poll_request_from_pool_call h k) =
      no_more (same_life (fits by_live h) _ _ (λ j. asked_kept (λ u. u.life) life_kept t.count k j (slot_at t j) t.pool) (locate (fits by_live h) t) refl)
  run_life (pool_confirm_sent_call h k) =
      no_more (same_life (fits by_live h) _ _ (λ j. returned_kept (λ u. u.life) life_kept k (slot_at t j)) (locate (fits by_live h) t) refl)
  run_life (pool_grant_end_call g) =
      no_more
      (same_life (fits by_index g.index) _ _ (λ j. ended_kept (λ u. u.life) life_kept g.life g.packets (slot_at t j))
      (locate (fits by_index g.index) t) refl)
  run_life total_lost_call = split (well_formed t) (λ f. rw f (no_more refl)) (λ f. rw f (no_more refl))
  run_life (grant_confirm q sent) = no_more refl

-- ---- a history: a slot's life is raised by each `connect` that takes it, and by nothing else

pub after_life : (cs : List Call) (t : ConnectionManager) → Sound t → (i : ℕ) → i < t.count
    → (slot_at (after cs t) i).life ≡ (slot_at t i).life + taken_in cs t i
after_life [] t w i h = no_more refl
after_life (c ∷ cs) t w i h =
    omega (arith, after_life cs (run c t).table (run_sound c t w) i (omega (arith, run_count c t)), run_life t w i h c)

-- ---- so a life is the number of times that a `connect` has taken the slot; it has 32 bits, since no `connect` takes a slot at its
-- last life

one_call : (c : Call) (t : ConnectionManager) (i : ℕ) → (slot_at t i).life < 2 ^ 32 → (slot_at t i).life + taken_by c t i < 2 ^ 32
one_call (on_link op h) t i b = omega arith
one_call (connects h a r p) t i b =
    split (is_last_life (slot_at t i))
    (λ f. rw f (split (is_at i (locate is_free t)) (λ g. rw g (omega arith)) (λ g. rw g (omega arith))))
    (λ f.
    let n = eqb-false (slot_at t i).life 4294967295 f in
    rw f
    (split (is_at i (locate is_free t))
    (λ g.
    rw g
    (split (ltb (slot_at t i).life 4294967295)
    (λ e. omega (arith, ltb-true (slot_at t i).life 4294967295 e))
    (λ e. absurd (n (omega (arith, b, ltb-false (slot_at t i).life 4294967295 e))))))
    (λ g. rw g (omega arith))))
one_call (poll_accept_call r ps) t i b = omega arith
one_call (get_connection_by_peer_address_call a) t i b = omega arith
one_call poll_disconnecting_call t i b = omega arith
one_call (set_link_credits_call c) t i b = omega arith
one_call total_lost_call t i b = omega arith
one_call (poll_request_from_pool_call h k) t i b = omega arith
one_call (pool_confirm_sent_call h k) t i b = omega arith
one_call (pool_grant_end_call g) t i b = omega arith
one_call (grant_confirm g sent) t i b = omega arith

after_bound : (cs : List Call) (t : ConnectionManager) → Sound t → (i : ℕ) → i < t.count → (slot_at t i).life < 2 ^ 32
    → (slot_at (after cs t) i).life < 2 ^ 32
after_bound [] t w i h b = b
after_bound (c ∷ cs) t w i h b =
    after_bound cs (run c t).table (run_sound c t w) i (omega (arith, run_count c t))
    (omega (arith, run_life t w i h c, one_call c t i b))

fresh_life : (slots packet_mtu packets i : ℕ) → i < 16 → (slot_at (fresh_table slots packet_mtu packets) i).life ≡ 0
fresh_life slots packet_mtu packets i h = rw (get_or-replicate 16 i fresh_slot blank_slot (omega arith))

new_life : (slots packet_mtu packets i : ℕ) → i < 16 → (slot_at (new slots packet_mtu packets).table i).life ≡ 0
new_life slots packet_mtu packets i h =
    split (setup_ok slots packet_mtu packets) (λ f. rw f (fresh_life slots packet_mtu packets i h)) (λ f. rw f (fresh_life 0 4 0 i h))

pub life_counts : LifeCounts
unfolding LifeCounts
life_counts t r i g = (
  ap (λ (u : ConnectionManager). (slot_at u i).life) (sym r.leads) ∙ (omega (arith, after_life r.calls first sound i here, zero_life)),
  subst (λ u. (slot_at u i).life < 2 ^ 32) r.leads (after_bound r.calls first sound i here (omega (arith, zero_life))),
)
  where
    first : ConnectionManager
    first = (new r.slots r.packet_mtu r.packets).table

    sound : Sound first
    sound = new_sound r.slots r.packet_mtu r.packets r.fresh

    here : i < first.count
    here = omega (arith, ap (λ (u : ConnectionManager). u.count) (sym r.leads) ∙ after_count r.calls first)

    zero_life : (slot_at first i).life ≡ 0
    zero_life = new_life r.slots r.packet_mtu r.packets i (omega (arith, (reached_sound t r).formed.most))
