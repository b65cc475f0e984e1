-- Free and held packets make c, the held part summed from the history: the proof of `PoolBalance`. Assumes nothing.
use Rattle.std.specs.Prelude.{ℕ, zero, suc, ◌+◌, ◌≤◌, ◌<◌, ◌≡◌, refl, Bool, true, false, cond, ◌&&◌, List, [], ◌∷◌, eqb, leb, ltb, get_or}
use Rattle.std.proofs.Common.{ap₂, ◌∙◌, arith, get_or-set_other, eqb-true, eq-eqb, ne_eqb, leb-true}
use Rattle.state.specs.State.{is_live}
use Rattle.slot.specs.declared.Address.{Address}
use Rattle.slot.specs.declared.LeConnRole.{LeConnRole}
use Rattle.slot.specs.declared.ConnParams.{ConnParams}
use Rattle.slot.specs.declared.ConnectionStorage.{ConnectionStorage}
use Rattle.slot.specs.declared.ConnectionManager.{ConnectionManager}
use Rattle.slot.specs.declared.Located.{Located}
use Rattle.slot.specs.declared.Located.TheVariants.{Setup, Absent, At}
use Rattle.slot.specs.Fresh.{blank_slot}
use Rattle.pool.specs.declared.Pool.{Pool}
use Rattle.pool.specs.declared.Share.{Share}
use Rattle.pool.specs.declared.Share.TheVariants.{Untouched, Waits, Draws, GivesBack, Closes}
use Rattle.pool.specs.Pool.{joined, may_draw}
use Rattle.pool.specs.Shared.{shared}
use Rattle.shuffle.specs.Shuffle.{by_key}
use Rattle.model.specs.Answer.{Reply, Local}
use Rattle.model.specs.Find.{Test, slot_at, held_by, locate, by_live, by_index, fits, well_formed}
use Rattle.model.specs.Link.{Op, get_connected_handle, way_of, closing}
use Rattle.model.specs.Calls.{Call, on_link, connects, poll_accept_call, get_connection_by_peer_address_call, poll_disconnecting_call, ticket_at, set_link_credits_call, total_lost_call, poll_request_from_pool_call, pool_confirm_sent_call, pool_grant_end_call, grant_confirm, run, settle, outcome, done, is_last_life, connected_at, accepted_at, asked_at, returned_at, pool_ended_at}
use Rattle.model.specs.History.{after}
use Rattle.model.proofs.Laws.{split, either, located}
use Rattle.model.proofs.Pooled.{Pooled, pooled}
use Rattle.model_theorems.specs.Lost.{is_at, sum}
use Rattle.model_theorems.proofs.Losses.{run_count, after_count}
use Rattle.model_theorems.specs.Sound.{Sound}
use Rattle.model_theorems.proofs.Reach.{put_here, run_sound, after_sound, credits_at}
use Rattle.pool_theorems.specs.Statement.{Move, draws, completes, returns, brings_back, nothing, accepted, by_link, by_ask, by_completion, by_end, at, moves_at, Sums, back, held, added, sums_from, at_start, sums, InBalance, PoolBalance}

-- ---- what a move does to what a slot holds, and to its sums

abbrev Holds : Move → ℕ → ℕ → Type 0
Holds (draws k) h h' = h' ≡ h + k
Holds (completes k) h h' = h' + k ≡ h
Holds (returns k) h h' = h' + k ≡ h
Holds brings_back h h' = h' ≡ 0
Holds nothing h h' = h' ≡ h

-- all that was held at the start or granted is held or came back
abbrev Balanced : Sums → ℕ → Type 0
Balanced b h = h + back b ≡ b.start + b.granted

balanced : (m : Move) (b : Sums) (h h' : ℕ) → Holds m h h' → Balanced b h → Balanced (added m b) h'
balanced (draws k) b h h' e q = omega arith
balanced (completes k) b h h' e q = omega arith
balanced (returns k) b h h' e q = omega arith
balanced brings_back b h h' e q = omega arith
balanced nothing b h h' e q = omega arith

-- ---- what a call does at the slot that it finds

-- by its answer
abbrev There : (Reply → Move) → ConnectionStorage → Local → Type 0
There m s l = Holds (m l.reply) s.pool_held l.slot.pool_held

link_there : (op : Op) (s : ConnectionStorage) (l : Local) → Pooled op s l → There (by_link op) s l
link_there op s l k = go (closing op) refl
  where
    go : (b : Bool) → closing op ≡ b → Holds (cond (b && accepted l.reply) brings_back nothing) s.pool_held l.slot.pool_held
    go true f = rw (k.accepted f) (rw f at k.held)
    go false f = rw f at k.held

asked_there : (n k j : ℕ) (s : ConnectionStorage) (p : Pool) → There (by_ask k) s (asked_at n k j s p)
asked_there n k j s p =
    either (There (by_ask k) s) (ltb p.packets k) _ _ refl
    (split (eqb k 0)
    (λ b. let z = eqb-true k 0 b in rw b (omega arith))
    (λ b. rw b (either (There (by_ask k) s) (may_draw n j k (joined j p)) _ _ refl refl)))

completed_there : (k : ℕ) (s : ConnectionStorage) → There (by_completion k) s (returned_at k s)
completed_there k s =
    split (leb k s.pool_held) (λ a. rw a (omega (arith, leb-true k s.pool_held a))) (λ a. rw a)

returned_there : (k : ℕ) (s : ConnectionStorage) → There (by_end k) s (returned_at k s)
returned_there k s =
    split (leb k s.pool_held) (λ a. rw a (omega (arith, leb-true k s.pool_held a))) (λ a. rw a)

ended_there : (v k : ℕ) (s : ConnectionStorage) → There (by_end k) s (pool_ended_at v k s)
ended_there v k s =
    either (There (by_end k) s) (eqb v s.life) _ _
    (either (There (by_end k) s) (is_live s.state) _ _ (returned_there k s) refl)
    refl

-- calls that move nothing
abbrev none : Reply → Move
none r = nothing

connected_there : (h : ℕ) (a : Address) (r : LeConnRole) (p : ConnParams) (c : ℕ) (s : ConnectionStorage)
    → There none s (connected_at h a r p c s)
connected_there h a r p c s = either (There none s) (is_last_life s) _ _ refl refl

accepted_there : (j : ℕ) (s : ConnectionStorage) → There none s (accepted_at j s)
accepted_there j s = either (There none s) (eqb s.refcount 0) _ _ refl refl

-- ---- one call

module _ (t : ConnectionManager) (w : Sound t) (i : ℕ) where
  record HoldsAfter (m : Move) (u : ConnectionManager) : Type 0 where
    holds : Holds m (slot_at t i).pool_held (slot_at u i).pool_held

  module _ (test : Test) (absent : Reply) (d : ℕ → Local) (m : Reply → Move) (there : (j : ℕ) → There m (slot_at t j) (d j)) where
    settled : (f : Located) → locate test t ≡ f → HoldsAfter (at i f (m (settle absent d t f).reply)) (settle absent d t f).table
    settled Setup e = record { holds = refl }
    settled Absent e = record { holds = refl }
    settled (At j) e =
        record {
          holds =
              by_key (λ (k : ℕ). k) i j
              (λ q.
              rw (q, eq-eqb j j refl, put_here t j (d j).slot (omega (arith, (located test t j e).1, w.places, w.formed.most)))
              (there j))
              (λ n. rw (ne_eqb i j n, get_or-set_other t.connections j i (d j).slot blank_slot n));
        }

  same : (test : Test) (absent : Reply) (d : ℕ → Local) → ((j : ℕ) → There none (slot_at t j) (d j))
      → HoldsAfter nothing (outcome test absent d t).table
  same test absent d there =
      let k = settled test absent d none there (locate test t) refl in split (is_at i (locate test t)) (λ q. rw q at k) (λ q. rw q at k)

  credits_same : (c : ℕ) → i < t.count → HoldsAfter nothing (run (set_link_credits_call c) t).table
  credits_same c h =
      split (well_formed t)
      (λ f.
      rw f
      (record { holds = rw (credits_at c t.count t.connections i h (omega (arith, w.places, w.formed.most))) }))
      (λ f. rw f (record { holds = refl }))

  moved : (c : Call) → i < t.count → HoldsAfter (moves_at i c t) (run c t).table
  moved (on_link op n) h =
      settled (fits (way_of op) n) _ _ (by_link op) (λ j. link_there op (slot_at t j) (done op t j) (pooled op _ j (slot_at t j)))
      (locate (fits (way_of op) n) t) refl
  moved (connects a b r p) h = same _ _ _ (λ j. connected_there a b r p _ (slot_at t j))
  moved (poll_accept_call r ps) h = same _ _ (λ j. accepted_at j (slot_at t j)) (λ j. accepted_there j (slot_at t j))
  moved (get_connection_by_peer_address_call a) h = same _ _ _ (λ j. (pooled get_connected_handle 0 j (slot_at t j)).held)
  moved poll_disconnecting_call h = same _ _ (λ j. ticket_at j (slot_at t j)) (λ j. refl)
  moved (set_link_credits_call c) h = credits_same c h
  moved total_lost_call h = split (well_formed t) (λ f. rw f (record { holds = refl })) (λ f. rw f (record { holds = refl }))
  moved (poll_request_from_pool_call a k) h =
      settled (fits by_live a) _ _ (by_ask k) (λ j. asked_there t.count k j (slot_at t j) t.pool) (locate (fits by_live a) t) refl
  moved (pool_confirm_sent_call a k) h =
      settled (fits by_live a) _ _ (by_completion k) (λ j. completed_there k (slot_at t j)) (locate (fits by_live a) t) refl
  moved (pool_grant_end_call g) h =
      settled (fits by_index g.index) _ _ (by_end g.packets) (λ j. ended_there g.life g.packets (slot_at t j))
      (locate (fits by_index g.index) t) refl
  moved (grant_confirm g n) h = record { holds = refl }

-- ---- c stays

shared_packets : (i : ℕ) (x : Share) (p : Pool) → (shared i x p).packets ≡ p.packets
shared_packets i Untouched p = refl
shared_packets i Waits p = refl
shared_packets i (Draws n) p = refl
shared_packets i (GivesBack n) p = refl
shared_packets i (Closes n) p = refl

settle_packets : (absent : Reply) (d : ℕ → Local) (t : ConnectionManager) (f : Located)
    → (settle absent d t f).table.pool.packets ≡ t.pool.packets
settle_packets absent d t Setup = refl
settle_packets absent d t Absent = refl
settle_packets absent d t (At i) = shared_packets i (d i).share t.pool

run_packets : (c : Call) (t : ConnectionManager) → (run c t).table.pool.packets ≡ t.pool.packets
run_packets (on_link op n) t = settle_packets _ _ t (locate _ t)
run_packets (connects a b r p) t = settle_packets _ _ t (locate _ t)
run_packets (poll_accept_call r ps) t = settle_packets _ _ t (locate _ t)
run_packets (get_connection_by_peer_address_call a) t = settle_packets _ _ t (locate _ t)
run_packets poll_disconnecting_call t = settle_packets _ (λ j. ticket_at j (slot_at t j)) t (locate _ t)
run_packets (set_link_credits_call c) t = split (well_formed t) (λ f. rw f) (λ f. rw f)
run_packets total_lost_call t = split (well_formed t) (λ f. rw f) (λ f. rw f)
run_packets (poll_request_from_pool_call h k) t = settle_packets _ _ t (locate _ t)
run_packets (pool_confirm_sent_call h k) t = settle_packets _ _ t (locate _ t)
run_packets (pool_grant_end_call g) t = settle_packets _ _ t (locate _ t)
run_packets (grant_confirm g n) t = refl

after_packets : (cs : List Call) (t : ConnectionManager) → (after cs t).pool.packets ≡ t.pool.packets
after_packets [] t = refl
after_packets (c ∷ cs) t = after_packets cs (run c t).table ∙ run_packets c t

-- ---- histories

summed : (i : ℕ) (cs : List Call) (t : ConnectionManager) (b : Sums) → Sound t → i < t.count → Balanced b (slot_at t i).pool_held
    → Balanced (sums_from i cs t b) (slot_at (after cs t) i).pool_held
summed i [] t b w h e = e
summed i (c ∷ cs) t b w h e =
    summed i cs (run c t).table (added (moves_at i c t) b) (run_sound c t w) (rw (run_count c t) h)
    (balanced (moves_at i c t) b _ _ (moved t w i c h).holds e)

-- what was there at the start
pub start_kept : (i : ℕ) (cs : List Call) (t : ConnectionManager) (b : Sums) → (sums_from i cs t b).start ≡ b.start
start_kept i [] t b = refl
start_kept i (c ∷ cs) t b = start_kept i cs (run c t).table (added (moves_at i c t) b) ∙ same (moves_at i c t)
  where
    same : (m : Move) → (added m b).start ≡ b.start
    same (draws k) = refl
    same (completes k) = refl
    same (returns k) = refl
    same brings_back = refl
    same nothing = refl

held_sum : (ss : List ConnectionStorage) (f : ℕ → ℕ) (n i : ℕ) → ((j : ℕ) → i ≤ j → j < i + n → (get_or ss j blank_slot).pool_held ≡ f j)
    → held_by ss n i ≡ sum f n i
unfolding held_by
held_sum ss f zero i h = refl
held_sum ss f (suc n) i h =
    ap₂ (λ (x y : ℕ). x + y) (h i (omega arith) (omega arith)) (held_sum ss f n (i + 1) (λ j a b. h j (omega arith) (omega arith)))

module _ (t : ConnectionManager) (w : Sound t) (cs : List Call) where
  each : (i : ℕ) → i < t.count → Balanced (sums i cs t) (slot_at (after cs t) i).pool_held
  each i h = summed i cs t (at_start (slot_at t i).pool_held) w h (omega arith)

  -- no more came back than there was
  within : (i : ℕ) → i < t.count → back (sums i cs t) ≤ (slot_at t i).pool_held + (sums i cs t).granted
  within i h = omega (arith, each i h, start_kept i cs t (at_start (slot_at t i).pool_held))

  held_after : (i : ℕ) → i < t.count → (slot_at (after cs t) i).pool_held ≡ held (sums i cs t)
  held_after i h = omega (arith, each i h)

  whole : (after cs t).pool.free + sum (λ i. held (sums i cs t)) t.count 0 ≡ t.pool.packets
  whole =
      let s = held_sum (after cs t).connections (λ i. held (sums i cs t)) t.count 0 (λ j a b. held_after j (omega arith)) in
      let k = (after_sound cs t w).formed.whole in
      (rw (after_count cs t, s) at k) ∙ after_packets cs t

  pub in_balance : InBalance cs t
  in_balance = (λ i h. (within i h, held_after i h), after_packets cs t, whole)

pub pool_balance : PoolBalance
unfolding PoolBalance
pool_balance t w cs = in_balance t w cs
