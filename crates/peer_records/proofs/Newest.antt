-- The record in force of a peer, found in one pass over the file, and with it the proof of `ExactlyOne` and what a peer's role is.
-- Assumes nothing.
use Prim.Native.Nat.{ℕ, zero, suc, ◌+◌, ◌<◌, ◌≤◌}
use Rattle.std.specs.Prelude.{Option, None, ◌≡◌, refl, ◌⊎◌, Bool, true, false, cond, ◌&&◌, ◌||◌, not, List, ◌∷◌, eqb}
use Rattle.std.proofs.Common.{sym, ap, ◌∙◌, inr, add-one, arith, eqb-true, leb-true, leb-false}
use Rattle.std.proofs.Math.Logic.{inl}
use Rattle.std.proofs.lemmas.Bool.{eqb-false}
use Rattle.slot.specs.declared.Address.{Address}
use Rattle.slot.specs.declared.LeConnRole.{LeConnRole}
use Rattle.model.specs.Calls.{same_address, among}
use Rattle.model.proofs.Laws.{and_left, and_right, split}
use Rattle.peer_records.specs.declared.PeerRecord.{PeerRecord}
use Rattle.peer_records.specs.Below.{all_below, all_from, all_fails}
use Rattle.peer_records.specs.Format.{count_in, record_at, is_readable, peer_in, serial_in, role_in}
use Rattle.peer_records.specs.Force.{in_force, role_value, in_force_for, peers_below, peers_in}
use Rattle.peer_records.specs.One.{OneInForce, ExactlyOne}
use Rattle.peer_records.proofs.One.{Best, NoneOf, same_eq, eq_same, best_in_force, only_best}
use Rattle.peer_records.specs.Latest.{latest, newer, takes}

pub latest_none : (s : List ℕ) (p : Address) → None ≡ latest s p 0
unfolding latest
latest_none s p = refl

pub latest_next : (s : List ℕ) (p : Address) (i : ℕ) {b r x : Option PeerRecord} → b ≡ latest s p i → r ≡ record_at s i → x ≡ newer b r p
    → x ≡ latest s p (i + 1)
unfolding latest
latest_next s p i e f g = rw add-one (g ∙ (λ k. newer (e k) (f k) p))

-- ---- it is the best

-- no record of the peer is readable, or b is that of the best
abbrev Found : List ℕ → Address → ℕ → Option PeerRecord → Type 0
Found s p n b = ((b ≡ None) × NoneOf s p n) ⊎ ((k : ℕ) × Best s p n k × (b ≡ record_at s k))

module _ (s : List ℕ) (p : Address) where
  at_or_below : (n j : ℕ) → j < suc n → (j < n) ⊎ (j ≡ n)
  at_or_below n j h = split (eqb j n) (λ q. inr (eqb-true j n q)) (λ q. inl (omega (arith, eqb-false j n q)))

  -- a record of the peer that does not take the place has a lower serial
  lower : (n : ℕ) (b : Option PeerRecord) → takes b (record_at s n) p ≡ false → (is_readable (record_at s n)) ≡ true → (peer_in (record_at s n)) ≡ p
      → (serial_in (record_at s n)) < (serial_in b)
  lower n b e r q = leb-false _ _ (rw (r, eq_same (peer_in (record_at s n)) p q) at e)

  took : (n : ℕ) (b : Option PeerRecord) → takes b (record_at s n) p ≡ true
      → ((is_readable (record_at s n)) ≡ true) × ((peer_in (record_at s n)) ≡ p) × ((serial_in b) ≤ (serial_in (record_at s n)))
  took n b e =
      let r = and_right (is_readable (record_at s n)) _ e in (
        and_left (is_readable (record_at s n)) _ e,
        same_eq _ _ (and_left (same_address (peer_in (record_at s n)) p) _ r),
        leb-true _ _ (and_right (same_address (peer_in (record_at s n)) p) _ r),
      )

  more : (n : ℕ) (b : Option PeerRecord) → Found s p n b → Found s p (suc n) (newer b (record_at s n) p)
  more n b f = go (takes b (record_at s n) p) refl f
    where
      go : (x : Bool) → takes b (record_at s n) p ≡ x → Found s p n b → Found s p (suc n) (cond x (record_at s n) b)
      go true e f = inr (n, record { below = omega arith; readable = t.0; peer = t.1; highest = high f }, refl)
        where
          t : ((is_readable (record_at s n)) ≡ true) × ((peer_in (record_at s n)) ≡ p) × ((serial_in b) ≤ (serial_in (record_at s n)))
          t = took n b e

          high : Found s p n b → (j : ℕ) → j < suc n → (is_readable (record_at s j)) ≡ true → (peer_in (record_at s j)) ≡ p
              → ((serial_in (record_at s j)) ≤ (serial_in (record_at s n))) × ((serial_in (record_at s j)) ≡ (serial_in (record_at s n)) → j ≤ n)
          high f j l r q = at (at_or_below n j l) f
            where
              at : (j < n) ⊎ (j ≡ n) → Found s p n b
                  → ((serial_in (record_at s j)) ≤ (serial_in (record_at s n))) × ((serial_in (record_at s j)) ≡ (serial_in (record_at s n)) → j ≤ n)
              at (inr c) f = (omega (arith, ap (λ (m : ℕ). (serial_in (record_at s m))) c), λ d. omega arith)
              at (inl c) (inl (u, none)) = absurd (none j c r q)
              at (inl c) (inr (k, v, u)) =
                  (omega (arith, (v.highest j c r q).0, ap (λ (x : Option PeerRecord). serial_in x) u, t.2), λ d. omega arith)
      go false e (inl (u, none)) = inl (u, later)
        where
          later : NoneOf s p (suc n)
          later j l r q = at (at_or_below n j l)
            where
              at : (j < n) ⊎ (j ≡ n) → ⊥
              at (inl c) = none j c r q
              at (inr c) =
                  omega (arith, lower n b e (rw c at r) (rw c at q), ap (λ (x : Option PeerRecord). serial_in x) u)
      go false e (inr (k, v, u)) =
          inr (k, record { below = omega (arith, v.below); readable = v.readable; peer = v.peer; highest = high }, u)
        where
          high : (j : ℕ) → j < suc n → (is_readable (record_at s j)) ≡ true → (peer_in (record_at s j)) ≡ p
              → ((serial_in (record_at s j)) ≤ (serial_in (record_at s k))) × ((serial_in (record_at s j)) ≡ (serial_in (record_at s k)) → j ≤ k)
          high j l r q = at (at_or_below n j l)
            where
              at : (j < n) ⊎ (j ≡ n)
                  → ((serial_in (record_at s j)) ≤ (serial_in (record_at s k))) × ((serial_in (record_at s j)) ≡ (serial_in (record_at s k)) → j ≤ k)
              at (inl c) = v.highest j c r q
              at (inr c) =
                  let m = lower n b e (rw c at r) (rw c at q) in
                  let d = ap (λ (x : Option PeerRecord). serial_in x) u in
                  let w = ap (λ (x : ℕ). (serial_in (record_at s x))) c in
                  (omega arith, λ y. absurd (omega arith))

  found : (n : ℕ) → Found s p n (latest s p n)
  unfolding latest
  found zero = inl (refl, λ j h r q. omega arith)
  found (suc n) = more n (latest s p n) (found n)

-- ---- exactly one

pub exactly_one : ExactlyOne
unfolding ExactlyOne
exactly_one s p i h r q = go (found s p (count_in s))
  where
    go : {b : Option PeerRecord} → Found s p (count_in s) b → OneInForce s p
    go (inl (u, none)) = absurd (none i h r q)
    go (inr (k, v, u)) =
        record { which = k; below = v.below; in_force_lem = best_in_force s p k v; peer = v.peer; highest = v.highest; only = only_best s p k v }

-- ---- whether a peer is one of those in force for a role

-- the record j is in force for the role, and of this peer
abbrev wants : List ℕ → LeConnRole → Address → ℕ → Bool
wants s r p j = in_force_for s r j && same_address (peer_in (record_at s j)) p

one_more : (x y a : Bool) → cond x (y || not a) (not a) ≡ not (a && not (x && y))
one_more true true true = refl
one_more true true false = refl
one_more true false true = refl
one_more true false false = refl
one_more false y true = refl
one_more false y false = refl

among_any : (s : List ℕ) (r : LeConnRole) (p : Address) (n : ℕ)
    → among (peers_below s r n) p ≡ not (all_below (λ j. not (wants s r p j)) n)
unfolding peers_below all_below
among_any s r p zero = refl
among_any s r p (suc n) =
    step (in_force_for s r n) (peer_in (record_at s n)) (peers_below s r n)
    ∙ ap (λ (m : Bool). cond (in_force_for s r n) (same_address (peer_in (record_at s n)) p || m) m) (among_any s r p n)
    ∙ one_more (in_force_for s r n) (same_address (peer_in (record_at s n)) p) (all_below (λ j. not (wants s r p j)) n)
  where
    step : (x : Bool) (q : Address) (l : List Address) → among (cond x (q ∷ l) l) p ≡ cond x (same_address q p || among l p) (among l p)
    step true q l = refl
    step false q l = refl

module _ (s : List ℕ) (r : LeConnRole) (p : Address) where
  record Wanted (j : ℕ) : Type 0 where
    in_force_lem : in_force s j ≡ true
    role : eqb (role_in (record_at s j)) (role_value r) ≡ true
    peer : (peer_in (record_at s j)) ≡ p

  wanted : (j : ℕ) → wants s r p j ≡ true → Wanted j
  wanted j e =
      let f = and_left (in_force_for s r j) _ e in
      record {
        in_force_lem = and_left (in_force s j) _ f;
        role = and_right (in_force s j) _ f;
        peer = same_eq _ _ (and_right (in_force_for s r j) _ e);
      }

  none_wanted : ((j : ℕ) → j < count_in s → Wanted j → ⊥) → among (peers_in s r) p ≡ false
  none_wanted h =
      among_any s r p (count_in s)
      ∙ ap not
      (all_from (λ j. not (wants s r p j)) (count_in s)
      (λ j l. split (wants s r p j) (λ e. absurd (h j l (wanted j e))) (λ e. ap not e)))

  one_wanted : (j : ℕ) → j < count_in s → Wanted j → among (peers_in s r) p ≡ true
  one_wanted j l w =
      among_any s r p (count_in s)
      ∙ ap not
      (all_fails (λ j. not (wants s r p j)) (count_in s) j l
      (rw (w.in_force_lem, w.role, eq_same (peer_in (record_at s j)) p w.peer)))

  -- the record that the pass finds is there and has the role
  role_of_latest : (is_readable (latest s p (count_in s)) && eqb (role_in (latest s p (count_in s))) (role_value r)) ≡ among (peers_in s r) p
  role_of_latest = go (found s p (count_in s))
    where
      go : {b : Option PeerRecord} → Found s p (count_in s) b → (is_readable b && eqb (role_in b) (role_value r)) ≡ among (peers_in s r) p
      go (inl (u, none)) =
          rw u (sym (none_wanted (λ j l w. none j l (and_left (is_readable (record_at s j)) _ w.in_force_lem) w.peer)))
      go (inr (k, v, u)) = rw (u, v.readable) (sym (by (eqb (role_in (record_at s k)) (role_value r)) refl))
        where
          by : (x : Bool) → eqb (role_in (record_at s k)) (role_value r) ≡ x → among (peers_in s r) p ≡ x
          by true e = one_wanted k v.below (record { in_force_lem = best_in_force s p k v; role = e; peer = v.peer })
          by false e =
              none_wanted
              (λ j l w.
              let q = only_best s p k v j l w.in_force_lem w.peer in
              let d = ap (λ (i : ℕ). eqb (role_in (record_at s i)) (role_value r)) q in
              let h = w.role in
              let z : ◌≡◌ {A = ℕ} 0 1 = cc in omega arith)

  pub by_latest : {b : Option PeerRecord} {v : ℕ} → b ≡ latest s p (count_in s) → v ≡ role_value r
      → (is_readable b && eqb (role_in b) v) ≡ among (peers_in s r) p
  by_latest e f = (λ k. is_readable (e k) && eqb (role_in (e k)) (f k)) ∙ role_of_latest
