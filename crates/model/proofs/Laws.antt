-- Laws about the check of a table and the search: what callers use instead of the definitions. Assumes nothing.
use Prim.Native.Nat.{ℕ, zero, suc, ◌+◌, ◌-◌, ◌^◌, ◌<◌, ◌≤◌}
use Rattle.std.proofs.Math.Path.{◌≡◌, refl}
use Rattle.std.proofs.Common.{ap, ◌∙◌, get_or-set_same, get_or-set_other}
use Rattle.std.specs.Prelude.{◌≢◌, Bool, ◌&&◌, List, get_or, length, ltb, eqb}
use Rattle.std.proofs.Math.Bool.{true, false, cond}
use Rattle.std.proofs.lemmas.Bool.{false≢true}
use native.Mathlib.Omega.{arith}
use Rattle.std.proofs.lemmas.List.{set-get_or}
use Rattle.std.proofs.Math.Seq.{set_out}
use Rattle.std.proofs.Math.Dec.{leb}
use borrow.Author.Tests.{leb-true, leb-false, le-leb, eqb-true, eqb-false, eq-eqb, ltb-true, lt-ltb}
use Rattle.slot.specs.declared.ConnectionStorage.{ConnectionStorage}
use Rattle.slot.specs.declared.ConnectionManager.{ConnectionManager}
use Rattle.slot.specs.declared.Located.{Located}
use Rattle.slot.specs.declared.Located.TheVariants.{Setup, Absent, At}
use Rattle.slot.specs.Fresh.{blank_slot}
use Rattle.slot.specs.Set.{set_connections}
use Rattle.model.specs.Find.{Test, slot_at, slot_ok, slots_ok, held_by, well_formed, lowest, locate}
use Rattle.model.specs.Calls.{put}

-- ---- tests

pub and_left : (a b : Bool) → (a && b) ≡ true → a ≡ true
and_left true b e = refl
and_left false b e = e

pub and_right : (a b : Bool) → (a && b) ≡ true → b ≡ true
and_right true b e = e
and_right false b e = absurd (false≢true e)

pub at_most : (k : ℕ) (b : Bool) → cond b k 0 ≤ k
at_most k true = omega arith
at_most k false = omega arith

-- by the value of a test
pub split : {Q : Type 0} (b : Bool) → (b ≡ true → Q) → (b ≡ false → Q) → Q
split true f g = f refl
split false f g = g refl

-- what holds of both arms holds of either
pub either : {X : Type 0} (P : X → Type 0) (b : Bool) (x y : X) → P x → P y → P (cond b x y)
either P true x y p q = p
either P false x y p q = q

-- ---- what is left of n at i: one more, or none

pub one_more : (n i : ℕ) → i < n → n - i ≡ suc (n - (i + 1))
one_more n i h = omega arith

pub none_left : (n i : ℕ) → n ≤ i → n - i ≡ 0
none_left n i h = omega arith

-- ---- the slots from i are well formed, slot by slot

pub oks_all : (ss : List ConnectionStorage) (n i : ℕ) → ((j : ℕ) → i ≤ j → j < i + n → slot_ok (get_or ss j blank_slot) ≡ true)
    → slots_ok ss n i ≡ true
unfolding slots_ok
oks_all ss zero i h = refl
oks_all ss (suc n) i h =
    rw (h i (omega arith) (omega arith)) (oks_all ss n (i + 1) (λ j a b. h j (omega arith) (omega arith)))

pub oks_each : (ss : List ConnectionStorage) (n i : ℕ) → slots_ok ss n i ≡ true
    → (j : ℕ) → i ≤ j → j < i + n → slot_ok (get_or ss j blank_slot) ≡ true
unfolding slots_ok
oks_each ss zero i e j a b = absurd (omega arith)
oks_each ss (suc n) i e j a b =
    go (leb j i) refl
    (λ c. oks_each ss n (i + 1) (and_right (slot_ok (get_or ss i blank_slot)) (slots_ok ss n (i + 1)) e) j c (omega arith))
  where
    go : (c : Bool) → leb j i ≡ c → (i + 1 ≤ j → slot_ok (get_or ss j blank_slot) ≡ true) → slot_ok (get_or ss j blank_slot) ≡ true
    go true q ih =
        let p : j ≡ i = omega (arith, leb-true j i q) in
        rw p (and_left (slot_ok (get_or ss i blank_slot)) (slots_ok ss n (i + 1)) e)
    go false q ih = ih (omega (arith, later q))
      where
        later : leb j i ≡ false → i < j
        later f = omega (arith, leb-false j i f)

-- ---- a well-formed table

pub record WellFormed (t : ConnectionManager) : Type 0 where
  pub least : 1 ≤ t.count
  pub most : t.count ≤ 16
  pub slots : (j : ℕ) → j < t.count → slot_ok (slot_at t j) ≡ true
  pub some : 1 ≤ t.pool.packets
  pub byte : t.pool.packets ≤ 255
  pub whole : t.pool.free + held_by t.connections t.count 0 ≡ t.pool.packets
  pub waits : t.pool.waiting < 2 ^ t.count
  pub turn : t.pool.turn ≤ t.count

pub well_formed_lem : (t : ConnectionManager) → WellFormed t → well_formed t ≡ true
unfolding well_formed
well_formed_lem t w =
    rw (
      le-leb 1 t.count w.least,
      le-leb t.count 16 w.most,
      oks_all t.connections t.count 0 (λ j a b. w.slots j (omega arith)),
      le-leb 1 t.pool.packets w.some,
      le-leb t.pool.packets 255 w.byte,
      eq-eqb (t.pool.free + held_by t.connections t.count 0) t.pool.packets w.whole,
      lt-ltb t.pool.waiting (2 ^ t.count) w.waits,
    )
    (le-leb t.pool.turn t.count w.turn)

pub formed_well : (t : ConnectionManager) → well_formed t ≡ true → WellFormed t
unfolding well_formed
formed_well t e =
    let tail = and_right (leb 1 t.count) _ e in
    let rest = and_right (leb t.count 16) _ tail in
    let some = and_right (slots_ok t.connections t.count 0) _ rest in
    let byte = and_right (leb 1 t.pool.packets) _ some in
    let whole = and_right (leb t.pool.packets 255) _ byte in
    let waits = and_right (eqb (t.pool.free + held_by t.connections t.count 0) t.pool.packets) _ whole in
    record {
      least = leb-true 1 t.count (and_left (leb 1 t.count) _ e);
      most = leb-true t.count 16 (and_left (leb t.count 16) _ tail);
      slots =
          λ j h.
          oks_each t.connections t.count 0 (and_left (slots_ok t.connections t.count 0) _ rest) j (omega arith) (omega arith);
      some = leb-true 1 t.pool.packets (and_left (leb 1 t.pool.packets) _ some);
      byte = leb-true t.pool.packets 255 (and_left (leb t.pool.packets 255) _ byte);
      whole =
          eqb-true _ _ (and_left (eqb (t.pool.free + held_by t.connections t.count 0) t.pool.packets) _ whole);
      waits = ltb-true _ _ (and_left (ltb t.pool.waiting (2 ^ t.count)) _ waits);
      turn = leb-true _ _ (and_right (ltb t.pool.waiting (2 ^ t.count)) _ waits);
    }

-- ---- the search

-- what the check said, from what check and search found
abbrev pub in_bounds : Located → Bool
in_bounds Setup = false
in_bounds Absent = true
in_bounds (At i) = true

module _ (fits : Test) (ss : List ConnectionStorage) where
  -- what is found fits, and lies within
  pub lowest_found : (n i j : ℕ) → lowest fits ss n i ≡ At j → (j < i + n) × (fits j (get_or ss j blank_slot) ≡ true)
  unfolding lowest
  lowest_found zero i j e = absurd (never e)
    where
      never : Absent ≡ At j → ⊥
      never q = let z : ◌≡◌ {A = ℕ} 0 1 = cc in omega arith
  lowest_found (suc n) i j e = go (fits i (get_or ss i blank_slot)) refl (λ q. lowest_found n (i + 1) j q) e
    where
      go : (b : Bool) → fits i (get_or ss i blank_slot) ≡ b
          → (lowest fits ss n (i + 1) ≡ At j → (j < i + 1 + n) × (fits j (get_or ss j blank_slot) ≡ true))
          → cond b (At i) (lowest fits ss n (i + 1)) ≡ At j
          → (j < i + suc n) × (fits j (get_or ss j blank_slot) ≡ true)
      go true f ih q = let p : i ≡ j = cc in (omega arith, rw (← p) f)
      go false f ih q = (omega (arith, (ih q).0), (ih q).1)

  -- a search that no slot fits
  pub lowest_none : (n i : ℕ) → ((j : ℕ) → i ≤ j → j < i + n → fits j (get_or ss j blank_slot) ≡ true → ⊥)
      → lowest fits ss n i ≡ Absent
  unfolding lowest
  lowest_none zero i h = refl
  lowest_none (suc n) i h =
      go (fits i (get_or ss i blank_slot)) refl (lowest_none n (i + 1) (λ j a b. h j (omega arith) (omega arith)))
    where
      go : (b : Bool) → fits i (get_or ss i blank_slot) ≡ b → lowest fits ss n (i + 1) ≡ Absent
          → cond b (At i) (lowest fits ss n (i + 1)) ≡ Absent
      go true f q = absurd (h i (omega arith) (omega arith) f)
      go false f q = q

  -- a search that at most slot k fits
  pub lowest_only : (n i k : ℕ) → i ≤ k → k < i + n → ((j : ℕ) → i ≤ j → j < i + n → fits j (get_or ss j blank_slot) ≡ true → j ≡ k)
      → lowest fits ss n i ≡ cond (fits k (get_or ss k blank_slot)) (At k) Absent
  unfolding lowest
  lowest_only zero i k a b h = absurd (omega arith)
  lowest_only (suc n) i k a b h =
      go (fits i (get_or ss i blank_slot)) refl (leb k i) refl
      (λ m. lowest_only n (i + 1) k m (omega arith) (λ j c d. h j (omega arith) (omega arith)))
    where
      go : (c : Bool) → fits i (get_or ss i blank_slot) ≡ c → (d : Bool) → leb k i ≡ d
          → (i + 1 ≤ k → lowest fits ss n (i + 1) ≡ cond (fits k (get_or ss k blank_slot)) (At k) Absent)
          → cond c (At i) (lowest fits ss n (i + 1)) ≡ cond (fits k (get_or ss k blank_slot)) (At k) Absent
      go true f d q ih = let p : i ≡ k = h i (omega arith) (omega arith) f in rw (← p, f)
      go false f true q ih =
          let p : k ≡ i = omega (arith, leb-true k i q) in
          lowest_none n (i + 1) (λ j c d e. let z : j ≡ k = h j (omega arith) (omega arith) e in omega arith) ∙ rw (p, f)
      go false f false q ih = ih (omega (arith, leb-false k i q))

  -- a search does not answer Setup
  pub lowest_checked : (n i : ℕ) → in_bounds (lowest fits ss n i) ≡ true
  unfolding lowest
  lowest_checked zero i = refl
  lowest_checked (suc n) i = go (fits i (get_or ss i blank_slot)) (lowest_checked n (i + 1))
    where
      go : (b : Bool) → in_bounds (lowest fits ss n (i + 1)) ≡ true
          → in_bounds (cond b (At i) (lowest fits ss n (i + 1))) ≡ true
      go true ih = refl
      go false ih = ih

-- ---- the check and the search together

pub located : (fits : Test) (t : ConnectionManager) (i : ℕ) → locate fits t ≡ At i
    → (well_formed t ≡ true) × (i < t.count) × (fits i (slot_at t i) ≡ true)
unfolding locate
located fits t i e = go (well_formed t) refl e
  where
    go : (b : Bool) → well_formed t ≡ b → cond b (lowest fits t.connections t.count 0) Setup ≡ At i
        → (well_formed t ≡ true) × (i < t.count) × (fits i (slot_at t i) ≡ true)
    go true f q = let w = lowest_found fits t.connections t.count 0 i q in (f, omega (arith, w.0), w.1)
    go false f q = let z : ◌≡◌ {A = ℕ} 0 1 = cc in absurd (omega arith)

pub locate_setup : (fits : Test) (t : ConnectionManager) → well_formed t ≡ false → locate fits t ≡ Setup
unfolding locate
locate_setup fits t e = rw e

pub locate_formed : (fits : Test) (t : ConnectionManager) → well_formed t ≡ true
    → locate fits t ≡ lowest fits t.connections t.count 0
unfolding locate
locate_formed fits t e = rw e

pub locate_checked : (fits : Test) (t : ConnectionManager) → in_bounds (locate fits t) ≡ well_formed t
unfolding locate
locate_checked fits t = go (well_formed t)
  where
    go : (b : Bool) → in_bounds (cond b (lowest fits t.connections t.count 0) Setup) ≡ b
    go true = lowest_checked fits t.connections t.count 0
    go false = refl

-- a slot put back as it was
pub put_same : (t : ConnectionManager) (i : ℕ) → put t i (slot_at t i) ≡ t
put_same t i = ap (set_connections t) (set-get_or t.connections i blank_slot)
