-- Which calls begin or end a wait, and move the turn: the proof of `PoolWaits`. Assumes nothing.
use Rattle.std.specs.Prelude.{ℕ, ◌+◌, ◌<◌, ◌≡◌, refl, Bool, true, false, cond, ◌&&◌, eqb, leb, ltb}
use Rattle.std.proofs.Common.{◌∙◌, arith, eqb-true, eq-eqb, ne_eqb, lt-ltb}
use Rattle.std.proofs.lemmas.Bool.{eqb-false}
use Rattle.state.specs.State.{is_live}
use Rattle.slot.specs.declared.ConnectionStorage.{ConnectionStorage}
use Rattle.slot.specs.declared.ConnectionManager.{ConnectionManager}
use Rattle.slot.specs.declared.Located.{Located}
use Rattle.slot.specs.declared.Located.TheVariants.{Setup, Absent, At}
use Rattle.turn.specs.Turn.{waits, with_wait}
use Rattle.turn.specs.Bits.{waits_here, waits_other}
use Rattle.pool.specs.declared.Share.{Share}
use Rattle.pool.specs.declared.Share.TheVariants.{Untouched, Waits, Draws, GivesBack, Closes}
use Rattle.pool.specs.Pool.{joined, may_draw}
use Rattle.pool.specs.Shared.{shared}
use Rattle.shuffle.specs.Shuffle.{by_key}
use Rattle.model.specs.Answer.{Refusal, Reply, refusal, Local, Outcome}
use Rattle.model.specs.Find.{Test, slot_at, locate, by_live, fits, well_formed}
use Rattle.model.specs.Link.{Op, way_of, absent, closing}
use Rattle.model.specs.Calls.{Call, on_link, connects, poll_accept_call, get_connection_by_peer_address_call, poll_disconnecting_call, ticket_at, set_link_credits_call, total_lost_call, poll_request_from_pool_call, pool_confirm_sent_call, pool_grant_end_call, grant_confirm, settle, outcome, done, is_last_life, accepted_at, asked_at, returned_at, pool_ended_at}
use Rattle.model.proofs.Laws.{split, either}
use Rattle.model.proofs.Pooled.{pooled}
use Rattle.model_theorems.specs.Lost.{is_at}
use Rattle.pool_theorems.specs.Statement.{is_granted, waits_asking, turn_asking, WaitsBy, PoolWaits}

-- ---- calls that begin and end no wait

abbrev Still : Share → Type 0
Still Untouched = Unit {0}
Still Waits = ⊥
Still (Draws n) = ⊥
Still (GivesBack n) = Unit {0}
Still (Closes n) = ⊥

abbrev Quiet : Local → Type 0
Quiet l = Still l.share

-- of any table
abbrev Same : ConnectionManager → ConnectionManager → Type 0
Same t u = ((i : ℕ) → waits i u.pool.waiting ≡ waits i t.pool.waiting) × (u.pool.turn ≡ t.pool.turn)

module _ (t : ConnectionManager) (test : Test) (none : Reply) (d : ℕ → Local) (quiet : (j : ℕ) → Quiet (d j)) where
  shared_same : (j : ℕ) (x : Share) → Still x → ((i : ℕ) → waits i (shared j x t.pool).waiting ≡ waits i t.pool.waiting) × ((shared j x t.pool).turn ≡ t.pool.turn)
  shared_same j Untouched e = (λ i. refl, refl)
  shared_same j Waits e = absurd e
  shared_same j (Draws n) e = absurd e
  shared_same j (GivesBack n) e = (λ i. refl, refl)
  shared_same j (Closes n) e = absurd e

  same : Same t (outcome test none d t).table
  same = go (locate test t)
    where
      go : (f : Located) → Same t (settle none d t f).table
      go Setup = (λ i. refl, refl)
      go Absent = (λ i. refl, refl)
      go (At j) = shared_same j (d j).share (quiet j)

returned_quiet : (k : ℕ) (s : ConnectionStorage) → Quiet (returned_at k s)
returned_quiet k s = either Quiet (leb k s.pool_held) _ _ tt tt

ended_quiet : (v k : ℕ) (s : ConnectionStorage) → Quiet (pool_ended_at v k s)
ended_quiet v k s = either Quiet (eqb v s.life) _ _ (either Quiet (is_live s.state) _ _ (returned_quiet k s) tt) tt

-- ---- the wait of slot j set or cleared

waits_with : (i j b w : ℕ) → b < 2 → waits i (with_wait j b w) ≡ cond (eqb i j) (eqb b 1) (waits i w)
waits_with i j b w h =
    by_key (λ (x : ℕ). x) i j
    (λ q. rw (q, eq-eqb j j refl) (waits_here j b w h))
    (λ n. rw (ne_eqb i j n) (waits_other i j b w h n))

-- ---- a call on a link

module _ (op : Op) (t : ConnectionManager) where
  abbrev After : Located → ConnectionManager → Type 0
  After f u =
      ((i : ℕ) → waits i u.pool.waiting ≡ cond (closing op && is_at i f) false (waits i t.pool.waiting))
      × (u.pool.turn ≡ t.pool.turn)

  link_waits : (none : Reply) (f : Located) → After f (settle none (done op t) t f).table
  link_waits none Setup = (λ i. split (closing op) (λ e. rw e) (λ e. rw e), refl)
  link_waits none Absent = (λ i. split (closing op) (λ e. rw e) (λ e. rw e), refl)
  link_waits none (At j) =
      rw (pooled op t.default_att_mtu j (slot_at t j)).share
      (split (closing op)
      (λ e. rw e (λ i. waits_with i j 0 t.pool.waiting (omega arith), refl))
      (λ e. rw e (λ i. refl, refl)))

-- ---- an ask

module _ (k : ℕ) (t : ConnectionManager) where
  abbrev asked : Located → Outcome
  asked f = settle (refusal Refusal.Disconnected) (λ i. asked_at t.count k i (slot_at t i) t.pool) t f

  -- at slot j
  abbrev AskedAt : ℕ → Local → Type 0
  AskedAt j l =
      ((i : ℕ)
      → waits i (shared j l.share t.pool).waiting
      ≡ cond (eqb i j) (waits_asking k l.reply (waits i t.pool.waiting)) (waits i t.pool.waiting))
      × ((shared j l.share t.pool).turn ≡ cond (is_granted k l.reply) (j + 1) t.pool.turn)

  asked_at_lem : (j : ℕ) → AskedAt j (asked_at t.count k j (slot_at t j) t.pool)
  asked_at_lem j =
      either (AskedAt j) (ltb t.pool.packets k) _ _ (λ i. stays i, refl)
      (split (eqb k 0)
      (λ e. rw (e, eqb-true k 0 e) (λ i. stays i, refl))
      (λ e.
      let above : ltb 0 k ≡ true = lt-ltb 0 k (omega (arith, eqb-false k 0 e)) in
      rw e
      (either (AskedAt j) (may_draw t.count j k (joined j t.pool)) _ _
      (λ i. rw above (ended i), rw above)
      (λ i. waits_with i j 1 t.pool.waiting (omega arith), refl))))
    where
      stays : (i : ℕ) → waits i t.pool.waiting ≡ cond (eqb i j) (waits i t.pool.waiting) (waits i t.pool.waiting)
      stays i = either (λ (b : Bool). waits i t.pool.waiting ≡ b) (eqb i j) _ _ refl refl

      ended : (i : ℕ) → waits i (with_wait j 0 (with_wait j 1 t.pool.waiting)) ≡ cond (eqb i j) false (waits i t.pool.waiting)
      ended i =
          waits_with i j 0 _ (omega arith)
          ∙ rw (waits_with i j 1 t.pool.waiting (omega arith)) (split (eqb i j) (λ e. rw e) (λ e. rw e))

  asked_waits : (f : Located)
      → ((i : ℕ)
      → waits i (asked f).table.pool.waiting
      ≡ cond (is_at i f) (waits_asking k (asked f).reply (waits i t.pool.waiting)) (waits i t.pool.waiting))
      × ((asked f).table.pool.turn ≡ turn_asking f (is_granted k (asked f).reply) t.pool.turn)
  asked_waits Setup = (λ i. refl, refl)
  asked_waits Absent = (λ i. refl, refl)
  asked_waits (At j) = asked_at_lem j

-- ---- every call

pub run_waits : (c : Call) (t : ConnectionManager) → WaitsBy c t
run_waits (on_link op n) t = link_waits op t (absent op t.default_att_mtu) (locate (fits (way_of op) n) t)
run_waits (connects h a r p) t = same t _ _ _ (λ j. either Quiet (is_last_life (slot_at t j)) _ _ tt tt)
run_waits (poll_accept_call r ps) t =
    same t _ _ (λ j. accepted_at j (slot_at t j)) (λ j. either Quiet (eqb (slot_at t j).refcount 0) _ _ tt tt)
run_waits (get_connection_by_peer_address_call a) t = same t _ _ _ (λ j. either Quiet (eqb (slot_at t j).refcount 255) _ _ tt tt)
run_waits poll_disconnecting_call t = same t _ _ (λ j. ticket_at j (slot_at t j)) (λ j. tt)
run_waits (set_link_credits_call c) t = (λ i. split (well_formed t) (λ f. rw f) (λ f. rw f), split (well_formed t) (λ f. rw f) (λ f. rw f))
run_waits total_lost_call t = (λ i. split (well_formed t) (λ f. rw f) (λ f. rw f), split (well_formed t) (λ f. rw f) (λ f. rw f))
run_waits (poll_request_from_pool_call h k) t = asked_waits k t (locate (fits by_live h) t)
run_waits (pool_confirm_sent_call h k) t = same t _ _ _ (λ j. returned_quiet k (slot_at t j))
run_waits (pool_grant_end_call g) t = same t _ _ _ (λ j. ended_quiet g.life g.packets (slot_at t j))
run_waits (grant_confirm g n) t = (λ i. refl, refl)

pub pool_waits : PoolWaits
unfolding PoolWaits
pool_waits c t = run_waits c t
