-- The pass is the check and the search of the model, and its slot is one of the sixteen: what the proofs cite. Assumes nothing.
use Rattle.std.specs.Prelude.{ℕ, zero, suc, ◌+◌, ◌-◌, ◌<◌, ◌≤◌, ◌≡◌, ◌≢◌, Bool, cond, ◌&&◌, List, get_or, leb, eqb}
use Rattle.std.proofs.Math.Path.{refl, ap}
use Rattle.std.proofs.Common.{sym, ◌∙◌, arith}
use Rattle.std.proofs.Math.Bool.{true, false, and-false}
use Rattle.std.proofs.Math.Nat.{sub-zero}
use borrow.Author.Tests.{eq-eqb, ne_eqb, eqb-true, eqb-false, leb-true, leb-false}
use Rattle.slot.specs.declared.ConnectionStorage.{ConnectionStorage}
use Rattle.slot.specs.declared.ConnectionManager.{ConnectionManager}
use Rattle.slot.specs.declared.Located.{Located}
use Rattle.slot.specs.declared.Located.TheVariants.{Setup, Absent, At}
use Rattle.slot.specs.Fresh.{blank_slot}
use Rattle.model.specs.Find.{Test, slot_at, slot_ok, slots_ok, held_by, well_formed, lowest, locate, by_index, fits}
use Rattle.pool.specs.declared.Pool.{Pool}
use Rattle.pool.specs.Code.{fits_slots}
use Rattle.pool.specs.Laws.{whole_split}
use Rattle.model.proofs.Laws.{and_left, and_right, split, either, one_more, none_left, formed_well, located, lowest_only, lowest_none}
use Rattle.search.specs.declared.Found.{Found}
use Rattle.search.specs.declared.Search.{Search}
use Rattle.search.specs.Found.{place_of, found_at, found}
use Rattle.search.specs.Pass.{searched, begun, or_else, seen, ended, pass}

-- ---- the pass is the check of the slots and of the packets, and the lowest that fits

at_end : (b : Bool) (e m : ℕ) (f : Located) → (cond b (searched e m f) (searched e 0 Setup)).located ≡ cond b (or_else f Absent) Setup
at_end true e m Setup = refl
at_end true e m Absent = refl
at_end true e m (At j) = refl
at_end false e m f = refl

or_next : (hit : Bool) (f g : Located) (i : ℕ) → or_else (or_else f (cond hit (At i) Absent)) g ≡ or_else f (cond hit (At i) g)
or_next hit Setup g i = refl
or_next true Absent g i = refl
or_next false Absent g i = refl
or_next hit (At j) g i = refl

-- what is missing after a slot that holds h
less_held : (h m r : ℕ) → h ≤ m → eqb (m - h) r ≡ eqb m (h + r)
less_held h m r a =
    split (eqb (m - h) r)
    (λ e. let p : m ≡ h + r = omega (arith, eqb-true (m - h) r e) in e ∙ sym (eq-eqb m (h + r) p))
    (λ e. e ∙ sym (ne_eqb m (h + r) (λ q. eqb-false (m - h) r e (omega arith))))

always : (b : Bool) → cond b Setup Setup ≡ Setup
always true = refl
always false = refl

unfoldable passed : (test : Test) (ss : List ConnectionStorage) (n i e m : ℕ) (f : Located)
    → pass test ss n i (searched e m f) ≡ cond (slots_ok ss n i && eqb m (held_by ss n i)) (or_else f (lowest test ss n i)) Setup
unfolding pass slots_ok held_by lowest
passed test ss zero i e m f = at_end (eqb m 0) e m f
passed test ss (suc n) i e m f =
    split (slot_ok (get_or ss i blank_slot))
    (λ a.
    split (leb (get_or ss i blank_slot).pool_held m)
    (λ b.
    rw (a, b)
    (passed test ss n (i + 1) e (m - (get_or ss i blank_slot).pool_held) _
    ∙ rw (
      less_held (get_or ss i blank_slot).pool_held m (held_by ss n (i + 1)) (leb-true _ m b),
      or_next (test i (get_or ss i blank_slot)) f (lowest test ss n (i + 1)) i,
    )))
    (λ b.
    let d : m ≢ (get_or ss i blank_slot).pool_held + held_by ss n (i + 1) = λ q. omega (arith, leb-false _ m b) in
    rw (a, b, ne_eqb m _ d, and-false (slots_ok ss n (i + 1))) (passed test ss n (i + 1) e 0 Setup ∙ always (slots_ok ss n (i + 1) && eqb 0 (held_by ss n (i + 1))))))
    (λ a. rw a (passed test ss n (i + 1) e 0 Setup ∙ always (slots_ok ss n (i + 1) && eqb 0 (held_by ss n (i + 1)))))

-- ---- what was found, its place and its slot

-- a search by index is a comparison with the count
module _ (ss : List ConnectionStorage) (n k : ℕ) where
  pub index_found : k < n → lowest (fits by_index k) ss n 0 ≡ At k
  index_found h =
      rw (lowest_only (fits by_index k) ss n 0 k (omega arith) (omega arith) (λ j a b e. eqb-true j k e), eq-eqb k k refl)

  pub index_absent : n ≤ k → lowest (fits by_index k) ss n 0 ≡ Absent
  index_absent h =
      lowest_none (fits by_index k) ss n 0 (λ j a b e. let p : j ≡ k = eqb-true j k e in omega arith)

-- the place is one of the sixteen
pub place_below : (test : Test) (t : ConnectionManager) (f : Located) → locate test t ≡ f → place_of f < 16
place_below test t Setup e = omega arith
place_below test t Absent e = omega arith
place_below test t (At i) e =
    let l = located test t i e in omega (arith, l.1, (formed_well t l.0).most)

pub fits_free : (n : ℕ) (p : Pool) → fits_slots n p ≡ true → p.free ≤ p.packets
fits_free n p e =
    leb-true p.free p.packets
    (and_left (leb p.free p.packets) _ (and_right (leb p.packets 255) _ (and_right (leb 1 p.packets) _ e)))

-- ---- the loop: how far it has come, and what is left of the pass

module _ (test : Test) (t : ConnectionManager) where
  pub record Passing (j : ℕ) (x : Search) : Type 0 where
    pub within : j ≤ x.end
    pub most : x.end ≤ 16
    pub rest : locate test t ≡ pass test t.connections (x.end - j) j x

  by_count : (few many fit : Bool) → leb 1 t.count ≡ few → leb t.count 16 ≡ many → fits_slots t.count t.pool ≡ fit
      → Passing 0 (cond (few && (many && fit)) (searched t.count (t.pool.packets - t.pool.free) Absent) (searched 0 0 Setup))
  unfolding locate well_formed pass
  by_count true true true p q r =
      record {
        within = omega arith;
        most = leb-true t.count 16 q;
        rest =
            rw (p, q, whole_split t.count (held_by t.connections t.count 0) t.pool, r, sub-zero t.count)
            (sym (passed test t.connections t.count 0 t.count (t.pool.packets - t.pool.free) Absent));
      }
  by_count true true false p q r =
      record {
        within = omega arith;
        most = omega arith;
        rest = rw (p, q, whole_split t.count (held_by t.connections t.count 0) t.pool, r, and-false (slots_ok t.connections t.count 0));
      }
  by_count true false fit p q r = record { within = omega arith; most = omega arith; rest = rw (p, q) }
  by_count false many fit p q r = record { within = omega arith; most = omega arith; rest = rw p }

  pub pass_start : {x : Search} → x ≡ begun t.count t.pool → Passing 0 x
  pass_start e = rw e (by_count (leb 1 t.count) (leb t.count 16) (fits_slots t.count t.pool) refl refl refl)

  pub seen_end : (j : ℕ) (s : ConnectionStorage) (x : Search) → (seen test j s x).end ≡ x.end
  seen_end j s x = either (λ (y : Search). y.end ≡ x.end) (slot_ok s && leb s.pool_held x.missing) _ _ refl refl

  pub pass_next : {j : ℕ} {x y : Search} → j < x.end → y ≡ seen test j (slot_at t j) x → Passing j x → Passing (j + 1) y
  unfolding pass
  pass_next {j} {x} h e p =
      let k = seen_end j (slot_at t j) x in
      rw e
      (record {
        within = rw k (omega arith);
        most = rw k p.most;
        rest = rw k (p.rest ∙ ap (λ (n : ℕ). pass test t.connections n j x) (one_more x.end j h));
      })

  -- after the last slot
  pub pass_end : {j : ℕ} {x y : Search} → x.end ≤ j → y ≡ ended x → Passing j x → locate test t ≡ y.located
  unfolding pass
  pass_end {j} {x} h e p = rw e (p.rest ∙ ap (λ (n : ℕ). pass test t.connections n j x) (none_left x.end j h))

  pub pass_place : {j : ℕ} {x y : Search} → x.end ≤ j → y ≡ ended x → Passing j x → {i : ℕ} → i ≡ place_of y.located → i < 16
  pass_place {y = y} h e p q = rw q (place_below test t y.located (pass_end h e p))

  pub pass_found : {j : ℕ} {x y : Search} → x.end ≤ j → y ≡ ended x → Passing j x → {i : ℕ} → i ≡ place_of y.located
      → ◌≡◌ {A = Found} (record { located = y.located; index = i; slot = slot_at t i }) (found test t)
  pass_found {y = y} h e p q =
      ap (λ (i : ℕ). record { located = y.located; index = i; slot = slot_at t i }) q ∙ ap (found_at t) (sym (pass_end h e p))
