-- Every reached table has sixteen places and is well formed. Assumes nothing.
use Rattle.std.specs.Prelude.{ℕ, zero, suc, ◌+◌, ◌^◌, ◌<◌, ◌≤◌, ◌≡◌, refl, true, List, [], ◌∷◌, ◌++◌, length, get_or, leb, ltb, eqb}
use Rattle.std.proofs.Common.{sym, ap, ◌∙◌, subst, arith, length-set, length-append, length-take, length-drop, get_or-set_same, get_or-set_other, pow_pos, leb-true}
use Rattle.std.proofs.lemmas.List.{length-map, get_or-replicate}
use Rattle.state.specs.State.{is_live}
use Rattle.turn.specs.Bits.{with_below}
use Rattle.pool.specs.declared.Pool.{Pool}
use Rattle.pool.specs.declared.Share.{Share}
use Rattle.pool.specs.declared.Share.TheVariants.{Untouched, Waits, Draws, GivesBack, Closes}
use Rattle.pool.specs.Pool.{joined, may_draw}
use Rattle.pool.specs.Shared.{shared}
use Rattle.slot.specs.declared.Address.{Address}
use Rattle.slot.specs.declared.LeConnRole.{LeConnRole}
use Rattle.slot.specs.declared.ConnParams.{ConnParams}
use Rattle.slot.specs.declared.ConnectionStorage.{ConnectionStorage}
use Rattle.slot.specs.declared.ConnectionManager.{ConnectionManager}
use Rattle.slot.specs.declared.Located.{Located}
use Rattle.slot.specs.declared.Located.TheVariants.{Setup, Absent, At}
use Rattle.slot.specs.Set.{set_link_credits, set_pool_held, set_blocked_sends}
use Rattle.slot.specs.Fresh.{fresh_slot, blank_slot}
use Rattle.shuffle.specs.Shuffle.{by_key}
use Rattle.model.specs.Answer.{Reply, Local}
use Rattle.model.specs.Find.{Test, slot_at, slot_ok, well_formed, locate, fits}
use Rattle.model.specs.Link.{get_connected_handle, way_of, absent}
use Rattle.model.specs.Calls.{Call, on_link, connects, poll_accept_call, get_connection_by_peer_address_call, poll_disconnecting_call, set_link_credits_call, total_lost_call, poll_request_from_pool_call, pool_confirm_sent_call, pool_grant_end_call, grant_confirm, run, put, put_with, placed, settle, outcome, done, is_last_life, connected_at, accepted_at, with_credits_below, with_credits, set_credits, total_lost, asked_at, returned_at, pool_ended_at, ticket_at}
use Rattle.model.specs.History.{Reached, new, after, setup_ok, fresh_table}
use Rattle.model.proofs.Laws.{split, either, well_formed_lem, located, and_left, and_right}
use Rattle.model.proofs.Pooled.{held_same, held_set, held_none, Moved, accepted_moved, connected_moved, asked_moved, returned_moved}
use Rattle.model.proofs.Moved.{link_moved, ended_moved}
use Rattle.model_theorems.specs.Sound.{Sound}
use Rattle.model_theorems.proofs.Keep.{kept}

-- ---- a slot put back

module _ (t : ConnectionManager) (i : ℕ) (s : ConnectionStorage) where
  pub put_here : i < length t.connections → slot_at (put t i s) i ≡ s
  put_here h = get_or-set_same t.connections i s blank_slot h

  -- what holds of the slot put back and of each other slot holds of every slot
  pub put_each : (P : ConnectionStorage → Type 0) (j : ℕ)
      → (j ≡ i → P s) → P (slot_at t j) → i < length t.connections → P (slot_at (put t i s) j)
  put_each P j p q h =
      by_key (λ (k : ℕ). k) j i
      (λ e. rw (e, put_here h) (p e))
      (λ n. rw (get_or-set_other t.connections i j s blank_slot n) q)

  -- what the slot and the pool must be, so that the table stays sound
  pub record Whole (p : Pool) : Type 0 where
    pub formed : slot_ok s ≡ true
    pub packets : p.packets ≡ t.pool.packets
    pub whole : p.free + s.pool_held ≡ t.pool.free + (slot_at t i).pool_held
    pub waits : p.waiting < 2 ^ t.count
    pub turn : p.turn ≤ t.count

  put_sound : (p : Pool) → Sound t → i < t.count → Whole p → Sound (put_with t i s p)
  put_sound p w h k =
      record {
        places = length-set t.connections i s ∙ w.places;
        formed =
            record {
              some = rw k.packets w.formed.some;
              byte = rw k.packets w.formed.byte;
              whole =
                  let r = held_set t.connections t.count 0 i s (omega arith) (omega arith) (omega (arith, w.places, w.formed.most)) in
                  omega (arith, r, w.formed.whole, k.whole, k.packets);
              waits = k.waits;
              turn = k.turn;
              least = w.formed.least;
              most = w.formed.most;
              slots =
                  λ j g.
                  put_each (λ u. slot_ok u ≡ true) j (λ e. k.formed) (w.formed.slots j g)
                  (omega (arith, w.places, w.formed.most));
            };
      }

-- ---- a call that is about one slot

pub placed_sound : (t : ConnectionManager) (i : ℕ) (l : Local) → Sound t → i < t.count → slot_ok l.slot ≡ true
    → Moved l.share t.pool.free (slot_at t i).pool_held l.slot.pool_held → Sound (placed t i l).table
placed_sound t i l w h f m = put_sound t i l.slot _ w h (go l.share m)
  where
    go : (x : Share) → Moved x t.pool.free (slot_at t i).pool_held l.slot.pool_held
        → Whole t i l.slot (shared i x t.pool)
    go Untouched q =
        record { formed = f; packets = refl; whole = omega arith; waits = w.formed.waits; turn = w.formed.turn }
    go Waits q =
        record {
          formed = f;
          packets = refl;
          whole = omega arith;
          waits = with_below t.count i 1 _ h (omega arith) w.formed.waits;
          turn = w.formed.turn;
        }
    go (Draws n) q =
        record {
          formed = f;
          packets = refl;
          whole = omega (arith, q.0, q.1);
          waits = with_below t.count i 0 _ h (omega arith) (with_below t.count i 1 _ h (omega arith) w.formed.waits);
          turn = omega arith;
        }
    go (GivesBack n) q =
        record { formed = f; packets = refl; whole = omega arith; waits = w.formed.waits; turn = w.formed.turn }
    go (Closes n) q =
        record {
          formed = f;
          packets = refl;
          whole = omega (arith, q.0, q.1);
          waits = with_below t.count i 0 _ h (omega arith) w.formed.waits;
          turn = w.formed.turn;
        }

module _ (test : Test) (none : Reply) (at : ℕ → Local) (t : ConnectionManager) (w : Sound t)
    (formed : (i : ℕ) → slot_ok (slot_at t i) ≡ true → slot_ok (at i).slot ≡ true)
    (moved : (i : ℕ) → Moved (at i).share t.pool.free (slot_at t i).pool_held (at i).slot.pool_held) where
  settled : (f : Located) → locate test t ≡ f → Sound (settle none at t f).table
  settled Setup e = w
  settled Absent e = w
  settled (At i) e =
      let h = (located test t i e).1 in placed_sound t i (at i) w h (formed i (w.formed.slots i h)) (moved i)

  outcome_sound : Sound (outcome test none at t).table
  outcome_sound = settled (locate test t) refl

accepted_formed : (i : ℕ) (s : ConnectionStorage) → slot_ok s ≡ true → slot_ok (accepted_at i s).slot ≡ true
accepted_formed i s h = split (eqb s.refcount 0) (λ f. rw f h) (λ f. rw f h)

connected_formed : (h : ℕ) (a : Address) (r : LeConnRole) (p : ConnParams) (c : ℕ) (s : ConnectionStorage) → slot_ok s ≡ true
    → slot_ok (connected_at h a r p c s).slot ≡ true
connected_formed h a r p c s k = split (is_last_life s) (λ f. rw f k) (λ f. rw f refl)

-- ---- the calls on the pool

-- what no call on the pool touches: all of the slot but `blocked_sends` and the packets that it holds
abbrev pub PoolKept : {X : Type 0} → (ConnectionStorage → X) → Type 0
PoolKept f = (s : ConnectionStorage) (n : ℕ) → (f (set_pool_held s n) ≡ f s) × (f (set_blocked_sends s n) ≡ f s)

module _ {X : Type 0} (f : ConnectionStorage → X) (k : PoolKept f) where
  abbrev Alike : ConnectionStorage → Local → Type 0
  Alike s l = f l.slot ≡ f s

  pub asked_kept : (n m i : ℕ) (s : ConnectionStorage) (p : Pool) → f (asked_at n m i s p).slot ≡ f s
  asked_kept n m i s p =
      either (Alike s) (ltb p.packets m) _ _ refl
      (either (Alike s) (eqb m 0) _ _ refl (either (Alike s) (may_draw n i m (joined i p)) _ _ (k s _).0 (k s _).1))

  pub returned_kept : (m : ℕ) (s : ConnectionStorage) → f (returned_at m s).slot ≡ f s
  returned_kept m s = either (Alike s) (leb m s.pool_held) _ _ (k s _).0 refl

  pub ended_kept : (v m : ℕ) (s : ConnectionStorage) → f (pool_ended_at v m s).slot ≡ f s
  ended_kept v m s =
      either (Alike s) (eqb v s.life) _ _ (either (Alike s) (is_live s.state) _ _ (returned_kept m s) refl) refl

ok_kept : PoolKept slot_ok
ok_kept s n = (refl, refl)

-- ---- set_link_credits

module _ (c : ℕ) where
  abbrev credit : ConnectionStorage → ConnectionStorage
  credit s = set_link_credits s c

  pub credits_at : (n : ℕ) (ss : List ConnectionStorage) (j : ℕ) → j < n → j < length ss
      → get_or (with_credits_below c n ss) j blank_slot ≡ credit (get_or ss j blank_slot)
  credits_at zero ss j h k = absurd (omega arith)
  credits_at (suc n) [] j h k = absurd (omega arith)
  credits_at (suc n) (s ∷ ss) zero h k = refl
  credits_at (suc n) (s ∷ ss) (suc j) h k = credits_at n ss j (omega arith) (omega arith)

  credits_places : (n : ℕ) (ss : List ConnectionStorage) → length (with_credits_below c n ss) ≡ length ss
  credits_places n ss = simp (length-append, length-map, length-take, length-drop) (omega arith)

  credits_sound : (t : ConnectionManager) → Sound t → Sound (with_credits c t)
  credits_sound t w =
      record {
        places = credits_places t.count t.connections ∙ w.places;
        formed =
            record {
              least = w.formed.least;
              most = w.formed.most;
              some = w.formed.some;
              byte = w.formed.byte;
              whole =
                  rw (held_same (with_credits_below c t.count t.connections) t.connections t.count 0
                  (λ j a b. rw (credits_at t.count t.connections j (omega arith) (omega (arith, w.places, w.formed.most)))))
                  w.formed.whole;
              waits = w.formed.waits;
              turn = w.formed.turn;
              slots =
                  λ j h.
                  rw (credits_at t.count t.connections j h (omega (arith, w.places, w.formed.most)))
                  (w.formed.slots j h);
            };
      }

  set_sound : (t : ConnectionManager) → Sound t → Sound (set_credits c t).table
  set_sound t w = split (well_formed t) (λ f. rw f (credits_sound t w)) (λ f. rw f w)

total_sound : (t : ConnectionManager) → Sound t → Sound (total_lost t).table
total_sound t w = split (well_formed t) (λ f. rw f w) (λ f. rw f w)

-- ---- every call, and every history

pub run_sound : (c : Call) (t : ConnectionManager) → Sound t → Sound (run c t).table
run_sound (on_link op n) t w =
    outcome_sound (fits (way_of op) n) (absent op t.default_att_mtu) (done op t) t w
    (λ i h. (kept op _ i (slot_at t i)).formed h) (λ i. link_moved op _ i _ (slot_at t i))
run_sound (connects h a r p) t w =
    outcome_sound _ _ _ t w (λ i k. connected_formed h a r p _ (slot_at t i) k) (λ i. connected_moved h a r p _ _ (slot_at t i))
run_sound (poll_accept_call r ps) t w =
    outcome_sound _ _ _ t w (λ i k. accepted_formed i (slot_at t i) k) (λ i. accepted_moved i _ (slot_at t i))
run_sound (get_connection_by_peer_address_call a) t w =
    outcome_sound _ _ _ t w (λ i k. (kept get_connected_handle 0 i (slot_at t i)).formed k) (λ i. link_moved get_connected_handle 0 i _ (slot_at t i))
run_sound poll_disconnecting_call t w = outcome_sound _ _ (λ i. ticket_at i (slot_at t i)) t w (λ i k. k) (λ i. refl)
run_sound (set_link_credits_call c) t w = set_sound c t w
run_sound total_lost_call t w = total_sound t w
run_sound (poll_request_from_pool_call h k) t w =
    outcome_sound _ _ _ t w (λ i e. asked_kept slot_ok ok_kept t.count k i (slot_at t i) t.pool ∙ e)
    (λ i. asked_moved t.count k i (slot_at t i) t.pool)
run_sound (pool_confirm_sent_call h k) t w =
    outcome_sound _ _ _ t w (λ i e. returned_kept slot_ok ok_kept k (slot_at t i) ∙ e)
    (λ i. returned_moved k (slot_at t i) t.pool)
run_sound (pool_grant_end_call g) t w =
    outcome_sound _ _ _ t w (λ i e. ended_kept slot_ok ok_kept g.life g.packets (slot_at t i) ∙ e)
    (λ i. ended_moved g.life g.packets (slot_at t i) t.pool)
run_sound (grant_confirm g n) t w = w

pub after_sound : (cs : List Call) (t : ConnectionManager) → Sound t → Sound (after cs t)
after_sound [] t w = w
after_sound (c ∷ cs) t w = after_sound cs (run c t).table (run_sound c t w)

fresh_sound : (n m c : ℕ) → 1 ≤ n → n ≤ 16 → 1 ≤ c → c ≤ 255 → Sound (fresh_table n m c)
fresh_sound n m c a b d e =
    record {
      places = refl;
      formed =
          record {
            least = a;
            most = b;
            slots = λ j h. rw (get_or-replicate 16 j fresh_slot blank_slot (omega arith)) refl;
            some = d;
            byte = e;
            whole =
                rw (held_none (fresh_table n m c).connections n 0 (λ j x y. rw (get_or-replicate 16 j fresh_slot blank_slot (omega arith)) refl))
                (omega arith);
            waits = pow_pos n;
            turn = omega arith;
          };
    }

pub new_sound : (n m c : ℕ) → (new n m c).reply.number ≡ 0 → Sound (new n m c).table
new_sound n m c e =
    split (setup_ok n m c)
    (λ f.
    let g = and_right (leb 1 n) _ f in
    let h = and_right (leb m 65539) _ (and_right (leb 4 m) _ (and_right (leb n 16) _ g)) in
    rw f
    (fresh_sound n m c (leb-true 1 n (and_left (leb 1 n) _ f)) (leb-true n 16 (and_left (leb n 16) _ g))
    (leb-true 1 c (and_left (leb 1 c) _ h)) (leb-true c 255 (and_right (leb 1 c) _ h))))
    (λ f. absurd (omega (arith, rw f at e)))

pub reached_sound : (t : ConnectionManager) → Reached t → Sound t
reached_sound t r =
    subst Sound r.leads (after_sound r.calls _ (new_sound r.slots r.packet_mtu r.packets (omega (arith, r.fresh))))

pub reached_well_formed : (t : ConnectionManager) → Reached t → well_formed t ≡ true
reached_well_formed t r = well_formed_lem t (reached_sound t r).formed

-- ---- calls more

after_append : (cs ds : List Call) (t : ConnectionManager) → after (cs ++ ds) t ≡ after ds (after cs t)
after_append [] ds t = refl
after_append (c ∷ cs) ds t = after_append cs ds (run c t).table

-- a table that calls lead to from a reached one is reached
pub reached_by : (cs : List Call) (t u : ConnectionManager) → u ≡ after cs t → Reached t → Reached u
reached_by cs t u e r =
    record {
      slots = r.slots;
      packet_mtu = r.packet_mtu;
      packets = r.packets;
      fresh = r.fresh;
      calls = r.calls ++ cs;
      leads = after_append r.calls cs (new r.slots r.packet_mtu r.packets).table ∙ ap (after cs) r.leads ∙ sym e;
    }

-- every call keeps `Reached`
pub reached_call : (c : Call) (t : ConnectionManager) → Reached t → Reached (run c t).table
reached_call c t r = reached_by (c ∷ []) t (run c t).table refl r

-- every table that `new` gives is reached, whatever the slots, the packet MTU and the packets of the pool
pub new_reached : (slots packet_mtu packets : ℕ) → (new slots packet_mtu packets).reply.number ≡ 0
    → Reached (new slots packet_mtu packets).table
new_reached slots packet_mtu packets e =
    record { slots = slots; packet_mtu = packet_mtu; packets = packets; fresh = e; calls = []; leads = refl }
