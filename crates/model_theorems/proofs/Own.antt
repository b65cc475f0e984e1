-- A call of a link finds its own slot or none, so it reads nothing but that slot and the default ATT MTU, and writes nothing but
-- that slot, its wait and the free packets of the pool; and calls of different links commute. Assumes nothing.
use Rattle.std.specs.Prelude.{ℕ, ◌<◌, ◌≡◌, refl, ◌≢◌, Bool, true, false, cond, ◌&&◌, length, eqb}
use Rattle.std.proofs.Math.Nat.{add_right_comm}
use Rattle.std.proofs.Common.{sym, ap, ◌∙◌, arith, get_or-set_other, eq-eqb, eqb-true}
use Rattle.std.proofs.Math.Bool.{and-true}
use Rattle.std.proofs.lemmas.List.{set_comm}
use Rattle.state.specs.declared.ConnectionState.{ConnectionState}
use Rattle.state.specs.declared.ConnectionState.TheVariants.{Disconnected, DisconnectRequest, Disconnecting, Connecting, Connected}
use Rattle.slot.specs.declared.ConnectionStorage.{ConnectionStorage}
use Rattle.slot.specs.declared.ConnectionManager.{ConnectionManager}
use Rattle.slot.specs.declared.Located.TheVariants.{Absent, At}
use Rattle.slot.specs.declared.Woken.TheVariants.{Nobody}
use Rattle.state.specs.State.{is_live, is_connected, is_open}
use Rattle.turn.specs.Bits.{with_comm}
use Rattle.pool.specs.declared.Pool.{Pool}
use Rattle.pool.specs.declared.Share.{Share}
use Rattle.pool.specs.declared.Share.TheVariants.{Untouched, Waits, Draws, GivesBack, Closes}
use Rattle.pool.specs.Shared.{shared}
use Rattle.slot.specs.Fresh.{blank_slot}
use Rattle.model.specs.Answer.{Local}
use Rattle.model.specs.Find.{slot_at, slot_ok, locate, Way, by_index, by_live, by_connected, by_open, lets, fits}
use Rattle.model.specs.Link.{Op, way_of, absent, closing, local}
use Rattle.model.specs.Calls.{placed, settle, done, run}
use Rattle.model.proofs.Laws.{and_left, and_right, split, well_formed_lem, lowest_only, locate_formed, put_same}
use Rattle.model.proofs.Pooled.{Moved, pooled}
use Rattle.model.proofs.Moved.{link_moved}
use Rattle.model.specs.Demand3.{Link, OwnHandles, own_number, call_of, Answer, answer_of}
use Rattle.model_theorems.proofs.Keep.{kept}
use Rattle.model_theorems.specs.Sound.{Sound}
use Rattle.model_theorems.proofs.Reach.{put_each, placed_sound}

-- ---- a table that calls of links have made of the start

pub record Under (start t : ConnectionManager) : Type 0 where
  pub sound : Sound t
  pub size : t.count ≡ start.count
  -- what is open was open
  pub was : (j : ℕ) → is_open (slot_at t j).state ≡ true → is_open (slot_at start j).state ≡ true
  pub handles : (j : ℕ) → (slot_at t j).handle ≡ (slot_at start j).handle

-- ---- the search

pub live_open : (k : ConnectionState) → is_live k ≡ true → is_open k ≡ true
live_open Disconnected e = e
live_open (DisconnectRequest r) e = refl
live_open (Disconnecting r) e = refl
live_open Connecting e = refl
live_open Connected e = refl

connected_open : (k : ConnectionState) → is_connected k ≡ true → is_open k ≡ true
connected_open Disconnected e = e
connected_open (DisconnectRequest r) e = refl
connected_open (Disconnecting r) e = refl
connected_open Connecting e = refl
connected_open Connected e = refl

module _ (start t : ConnectionManager) (u : Under start t) (i : ℕ) (link : Link start i)
    (own : (j : ℕ) → Link start j → (slot_at start j).handle ≡ (slot_at start i).handle → j ≡ i) where
  -- an open slot with the link's handle is the link's
  no_other : (j : ℕ) → j < t.count → is_open (slot_at t j).state ≡ true → (slot_at t j).handle ≡ (slot_at start i).handle → j ≡ i
  no_other j h o p = own j (omega (arith, u.size), u.was j o) (sym (u.handles j) ∙ p)

  -- a state that lets a call in by handle is open
  by_handle_lem : (b : Bool) (j : ℕ) → j < t.count → (b ≡ true → is_open (slot_at t j).state ≡ true)
      → (b && eqb (slot_at t j).handle (slot_at start i).handle) ≡ true → j ≡ i
  by_handle_lem b j h o e = no_other j h (o (and_left b _ e)) (eqb-true _ _ (and_right b _ e))

  fits_no_other : (w : Way) (j : ℕ) → j < t.count → fits w (own_number w start i) j (slot_at t j) ≡ true → j ≡ i
  fits_no_other by_index j h e = eqb-true j i e
  fits_no_other by_live j h e = by_handle_lem (is_live (slot_at t j).state) j h (live_open (slot_at t j).state) e
  fits_no_other by_connected j h e = by_handle_lem (is_connected (slot_at t j).state) j h (connected_open (slot_at t j).state) e
  fits_no_other by_open j h e = by_handle_lem (is_open (slot_at t j).state) j h (λ q. q) e

  own_handle : (b : Bool) → (b && eqb (slot_at t i).handle (slot_at start i).handle) ≡ b
  own_handle b = rw (eq-eqb _ _ (u.handles i)) (and-true b)

  fits_own : (w : Way) → fits w (own_number w start i) i (slot_at t i) ≡ lets w (slot_at t i)
  fits_own by_index = eq-eqb i i refl
  fits_own by_live = own_handle (is_live (slot_at t i).state)
  fits_own by_connected = own_handle (is_connected (slot_at t i).state)
  fits_own by_open = own_handle (is_open (slot_at t i).state)

  pub own_slot : (w : Way) → locate (fits w (own_number w start i)) t ≡ cond (lets w (slot_at t i)) (At i) Absent
  own_slot w =
      locate_formed _ t (well_formed_lem t u.sound.formed)
      ∙ lowest_only _ t.connections t.count 0 i (omega arith) (omega (arith, u.size, link.0))
      (λ j a b f. fits_no_other w j (omega arith) f)
      ∙ ap (λ (b : Bool). cond b (At i) Absent) (fits_own w)

-- ---- a call on the link's own slot

-- what the call does to its slot: nothing where the state does not let it in
abbrev pub at_own : ℕ × Op → ConnectionManager → Local
at_own (i, op) t =
    cond (lets (way_of op) (slot_at t i))
    (done op t i)
    (record { reply = absent op t.default_att_mtu; woken = Nobody; slot = slot_at t i; share = Untouched })

abbrev pub own_step : ℕ × Op → ConnectionManager → Answer × ConnectionManager
own_step e t = (answer_of (placed t e.0 (at_own e t)), (placed t e.0 (at_own e t)).table)

-- the same call, made on the table
abbrev pub call : ConnectionManager → ℕ × Op → ConnectionManager → Answer × ConnectionManager
call start e t = (answer_of (run (call_of start e) t), (run (call_of start e) t).table)

-- by cases on what the search finds
answered : (op : Op) (i : ℕ) (t : ConnectionManager) (b : Bool) → lets (way_of op) (slot_at t i) ≡ b
    → (◌≡◌ {A = Answer × ConnectionManager} (
      answer_of (settle (absent op t.default_att_mtu) (done op t) t (cond b (At i) Absent)),
      (settle (absent op t.default_att_mtu) (done op t) t (cond b (At i) Absent)).table,
    )
    (own_step (i, op) t))
answered op i t true f = rw f
answered op i t false f = rw f (ap (λ v. ((absent op t.default_att_mtu, Nobody), v)) (sym (put_same t i)))

pub agree : (start : ConnectionManager) → OwnHandles start → (e : ℕ × Op) (t : ConnectionManager) → Link start e.0 → Under start t
    → call start e t ≡ own_step e t
agree start own e t link u =
    ap (λ f. (
      answer_of (settle (absent e.1 t.default_att_mtu) (done e.1 t) t f),
      (settle (absent e.1 t.default_att_mtu) (done e.1 t) t f).table,
    ))
    (own_slot start t u e.0 link (λ j l p. own j e.0 l link p) (way_of e.1))
    ∙ answered e.1 e.0 t (lets (way_of e.1) (slot_at t e.0)) refl

-- ---- what such a call keeps of the table

own_handle_kept : (e : ℕ × Op) (t : ConnectionManager) → (at_own e t).slot.handle ≡ (slot_at t e.0).handle
own_handle_kept (i, op) t =
    split (lets (way_of op) (slot_at t i)) (λ f. rw f (kept op _ i (slot_at t i)).handle) (λ f. rw f)

own_formed : (e : ℕ × Op) (t : ConnectionManager) → slot_ok (slot_at t e.0) ≡ true → slot_ok (at_own e t).slot ≡ true
own_formed (i, op) t h =
    split (lets (way_of op) (slot_at t i)) (λ f. rw f ((kept op _ i (slot_at t i)).formed h)) (λ f. rw f h)

own_moved : (e : ℕ × Op) (t : ConnectionManager)
    → Moved (at_own e t).share t.pool.free (slot_at t e.0).pool_held (at_own e t).slot.pool_held
own_moved (i, op) t =
    split (lets (way_of op) (slot_at t i)) (λ f. rw f (link_moved op _ i _ (slot_at t i))) (λ f. rw f)

pub under_start : (start : ConnectionManager) → Sound start → Under start start
under_start start w = record { sound = w; size = refl; was = λ j o. o; handles = λ j. refl }

pub keeps : (start : ConnectionManager) (e : ℕ × Op) (t : ConnectionManager) → Link start e.0 → Under start t
    → Under start (own_step e t).1
keeps start e t link u =
    record {
      sound = placed_sound t e.0 (at_own e t) u.sound here (own_formed e t (u.sound.formed.slots e.0 here)) (own_moved e t);
      size = u.size;
      was =
          λ j.
          put_each t e.0 _ (λ s. is_open s.state ≡ true → is_open (slot_at start j).state ≡ true) j
          (λ p o. rw p link.1) (u.was j) places;
      handles =
          λ j.
          put_each t e.0 _ (λ s. s.handle ≡ (slot_at start j).handle) j
          (λ p. rw p (own_handle_kept e t ∙ u.handles e.0)) (u.handles j) places;
    }
  where
    here : e.0 < t.count
    here = omega (arith, u.size, link.0)

    places : e.0 < length t.connections
    places = omega (arith, here, u.sound.places, u.sound.formed.most)

-- ---- calls of different links commute

-- what a call on a link does to the pool: nothing, or its link closes
abbrev OfLink : Share → Type 0
OfLink Untouched = Unit {0}
OfLink Waits = ⊥
OfLink (Draws n) = ⊥
OfLink (GivesBack n) = ⊥
OfLink (Closes n) = Unit {0}

of_link_lem : (e : ℕ × Op) (t : ConnectionManager) → OfLink (at_own e t).share
of_link_lem (i, op) t = split (lets (way_of op) (slot_at t i)) (λ f. rw f (rw (pooled op _ i (slot_at t i)).share (by_closing (closing op)))) (λ f. rw f tt)
  where
    by_closing : (b : Bool) → OfLink (cond b (Closes (slot_at t i).pool_held) Untouched)
    by_closing true = tt
    by_closing false = tt

-- a link that closes brings its own packets back and ends its own wait
shared_comm : (i j : ℕ) (x y : Share) (p : Pool) → OfLink x → OfLink y → i ≢ j → shared j y (shared i x p) ≡ shared i x (shared j y p)
shared_comm i j Untouched y p a b n = refl
shared_comm i j Waits y p a b n = absurd a
shared_comm i j (Draws m) y p a b n = absurd a
shared_comm i j (GivesBack m) y p a b n = absurd a
shared_comm i j (Closes m) Untouched p a b n = refl
shared_comm i j (Closes m) Waits p a b n = absurd b
shared_comm i j (Closes m) (Draws k) p a b n = absurd b
shared_comm i j (Closes m) (GivesBack k) p a b n = absurd b
shared_comm i j (Closes m) (Closes k) p a b n =
    λ z.
    record {
      packets = p.packets;
      free = add_right_comm p.free m k z;
      waiting = with_comm j i 0 0 p.waiting (omega arith) (omega arith) (λ q. n (sym q)) z;
      turn = p.turn;
    }

put_comm : (t : ConnectionManager) (i j : ℕ) (l l' : Local) → OfLink l.share → OfLink l'.share → i ≢ j
    → (placed (placed t i l).table j l').table ≡ (placed (placed t j l').table i l).table
put_comm t i j l l' a b n k =
    record {
      connections = set_comm t.connections i j l.slot l'.slot n k;
      count = t.count;
      default_link_credits = t.default_link_credits;
      default_att_mtu = t.default_att_mtu;
      pool = shared_comm i j l.share l'.share t.pool a b n k;
    }

-- a call of another link leaves the slot, and so all that the call does
at_other : (e f : ℕ × Op) (t : ConnectionManager) → e.0 ≢ f.0 → at_own f (own_step e t).1 ≡ at_own f t
at_other e (j, op) t n =
    ap
    (λ (s : ConnectionStorage).
    cond (lets (way_of op) s)
    (local op t.default_att_mtu j s)
    (record { reply = absent op t.default_att_mtu; woken = Nobody; slot = s; share = Untouched }))
    (get_or-set_other t.connections e.0 j (at_own e t).slot blank_slot (λ p. n (sym p)))

pub commute : (e f : ℕ × Op) (t : ConnectionManager) → e.0 ≢ f.0 → (own_step f (own_step e t).1).1 ≡ (own_step e (own_step f t).1).1
commute e f t n =
    ap (λ l. (placed (own_step e t).1 f.0 l).table) (at_other e f t n)
    ∙ put_comm t e.0 f.0 (at_own e t) (at_own f t) (of_link_lem e t) (of_link_lem f t) n
    ∙ sym (ap (λ l. (placed (own_step f t).1 e.0 l).table) (at_other f e t (λ p. n (sym p))))

pub unmoved : (e f : ℕ × Op) (t : ConnectionManager) → e.0 ≢ f.0 → (own_step f (own_step e t).1).0 ≡ (own_step f t).0
unmoved e f t n = ap (λ l. (l.reply, l.woken)) (at_other e f t n)
