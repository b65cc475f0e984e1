-- "For each peer exactly one record is in force if it has any readable one": `ExactlyOne`, the statement; it is proved in Latest. It
-- needs neither 22 nor 23: it holds of any bytes. Assumes nothing.
use Rattle.std.specs.Prelude.{ℕ, Option, ◌<◌, ◌≤◌, ◌≡◌, refl, Bool, true, false, ◌&&◌, ◌||◌, not, List, eqb, ltb}
use Rattle.std.proofs.Common.{sym, ◌∙◌, arith, ltb-true, ltb-false, lt-ltb, eq-eqb, eqb-true}
use Rattle.std.proofs.lemmas.Bool.{eqb-false}
use Rattle.slot.specs.declared.Address.{Address}
use Rattle.model.specs.Calls.{same_address}
use Rattle.model.proofs.Laws.{and_left, and_right, split}
use Rattle.peer_records.specs.declared.PeerRecord.{PeerRecord}
use Rattle.peer_records.specs.Below.{all_from, all_each}
use Rattle.peer_records.specs.Format.{count_in, record_at, is_readable, peer_in, serial_in}
use Rattle.peer_records.specs.Force.{supersedes, in_force}

-- ---- the same peer

pub same_eq : (a b : Address) → same_address a b ≡ true → a ≡ b
same_eq a b e =
    let x = a.addr in
    let y = b.addr in
    let r0 = and_right (eqb a.kind b.kind) _ e in
    let r1 = and_right (eqb x.0 y.0) _ r0 in
    let r2 = and_right (eqb x.1 y.1) _ r1 in
    let r3 = and_right (eqb x.2 y.2) _ r2 in
    let r4 = and_right (eqb x.3 y.3) _ r3 in
    let k = eqb-true a.kind b.kind (and_left (eqb a.kind b.kind) _ e) in
    let p0 = eqb-true x.0 y.0 (and_left (eqb x.0 y.0) _ r0) in
    let p1 = eqb-true x.1 y.1 (and_left (eqb x.1 y.1) _ r1) in
    let p2 = eqb-true x.2 y.2 (and_left (eqb x.2 y.2) _ r2) in
    let p3 = eqb-true x.3 y.3 (and_left (eqb x.3 y.3) _ r3) in
    let p4 = eqb-true x.4 y.4 (and_left (eqb x.4 y.4) _ r4) in
    let p5 = eqb-true x.5 y.5 (and_right (eqb x.4 y.4) _ r4) in
    λ i. record { kind = k i; addr = record { 0 = p0 i; 1 = p1 i; 2 = p2 i; 3 = p3 i; 4 = p4 i; 5 = p5 i } }

same_self : (a : Address) → same_address a a ≡ true
same_self a =
    let x = a.addr in
    rw (
      eq-eqb a.kind a.kind refl,
      eq-eqb x.0 x.0 refl,
      eq-eqb x.1 x.1 refl,
      eq-eqb x.2 x.2 refl,
      eq-eqb x.3 x.3 refl,
      eq-eqb x.4 x.4 refl,
      eq-eqb x.5 x.5 refl,
    )

pub eq_same : (a b : Address) → a ≡ b → same_address a b ≡ true
eq_same a b e = rw (← e) (same_self a)

-- ---- what it is to supersede

-- a readable record of the same peer, with a higher serial or with the same one and later
pub record Supersedes (a : Option PeerRecord) (j : ℕ) (b : Option PeerRecord) (i : ℕ) : Type 0 where
  pub readable : (is_readable a) ≡ true
  pub peer : (peer_in a) ≡ (peer_in b)
  pub serial : (serial_in b) ≤ (serial_in a)
  pub later : (serial_in b) ≡ (serial_in a) → i < j

module _ (a : Option PeerRecord) (j : ℕ) (b : Option PeerRecord) (i : ℕ) where
  pub supersedes_true : supersedes a j b i ≡ true → Supersedes a j b i
  supersedes_true e =
      let r = and_right (is_readable a) _ e in
      let o = and_right (same_address (peer_in a) (peer_in b)) _ r in
      let s = go (ltb (serial_in b) (serial_in a)) refl o in
      record {
        readable = and_left (is_readable a) _ e;
        peer = same_eq _ _ (and_left (same_address (peer_in a) (peer_in b)) _ r);
        serial = s.0;
        later = s.1;
      }
    where
      go : (x : Bool) → ltb (serial_in b) (serial_in a) ≡ x → (x || (eqb (serial_in b) (serial_in a) && ltb i j)) ≡ true
          → ((serial_in b) ≤ (serial_in a)) × ((serial_in b) ≡ (serial_in a) → i < j)
      go true q t =
          (omega (arith, ltb-true (serial_in b) (serial_in a) q), λ p. absurd (omega (arith, ltb-true (serial_in b) (serial_in a) q)))
      go false q t = (
        omega (arith, eqb-true (serial_in b) (serial_in a) (and_left (eqb (serial_in b) (serial_in a)) _ t)),
        λ p. ltb-true i j (and_right (eqb (serial_in b) (serial_in a)) _ t),
      )

  pub true_supersedes : Supersedes a j b i → supersedes a j b i ≡ true
  true_supersedes s =
      rw (s.readable, eq_same (peer_in a) (peer_in b) s.peer) (go (ltb (serial_in b) (serial_in a)) refl)
    where
      go : (x : Bool) → ltb (serial_in b) (serial_in a) ≡ x → (x || (eqb (serial_in b) (serial_in a) && ltb i j)) ≡ true
      go true q = refl
      go false q =
          let p : (serial_in b) ≡ (serial_in a) = omega (arith, ltb-false (serial_in b) (serial_in a) q, s.serial) in
          rw (eq-eqb (serial_in b) (serial_in a) p, lt-ltb i j (s.later p))

-- ---- the record k has the highest serial of its peer among the first n, and is the last that has it

pub record Best (s : List ℕ) (p : Address) (n k : ℕ) : Type 0 where
  pub below : k < n
  pub readable : (is_readable (record_at s k)) ≡ true
  pub peer : (peer_in (record_at s k)) ≡ p
  pub highest : (j : ℕ) → j < n → (is_readable (record_at s j)) ≡ true → (peer_in (record_at s j)) ≡ p
      → ((serial_in (record_at s j)) ≤ (serial_in (record_at s k))) × ((serial_in (record_at s j)) ≡ (serial_in (record_at s k)) → j ≤ k)

-- none of the first n is a readable record of the peer
abbrev pub NoneOf : List ℕ → Address → ℕ → Type 0
NoneOf s p n = (j : ℕ) → j < n → (is_readable (record_at s j)) ≡ true → (peer_in (record_at s j)) ≡ p → ⊥

not_of : (x : Bool) → not x ≡ true → x ≡ false
not_of true e = let z : ◌≡◌ {A = ℕ} 0 1 = cc in absurd (omega arith)
not_of false e = refl

module _ (s : List ℕ) (p : Address) (k : ℕ) (b : Best s p (count_in s) k) where
  pub best_in_force : in_force s k ≡ true
  best_in_force = rw b.readable (all_from _ (count_in s) each)
    where
      each : (j : ℕ) → j < count_in s → not (supersedes (record_at s j) j (record_at s k) k) ≡ true
      each j l = go (supersedes (record_at s j) j (record_at s k) k) refl
        where
          go : (x : Bool) → supersedes (record_at s j) j (record_at s k) k ≡ x → not x ≡ true
          go false e = refl
          go true e =
              let w = supersedes_true (record_at s j) j (record_at s k) k e in
              let h = b.highest j l w.readable (w.peer ∙ b.peer) in
              let q : (serial_in (record_at s k)) ≡ (serial_in (record_at s j)) = omega (arith, w.serial, h.0) in
              absurd (omega (arith, w.later q, h.1 (sym q)))

  pub only_best : (j : ℕ) → j < count_in s → in_force s j ≡ true → (peer_in (record_at s j)) ≡ p → j ≡ k
  only_best j l e q = split (eqb j k) (eqb-true j k) (λ d. absurd (other (eqb-false j k d)))
    where
      h : ((serial_in (record_at s j)) ≤ (serial_in (record_at s k))) × ((serial_in (record_at s j)) ≡ (serial_in (record_at s k)) → j ≤ k)
      h = b.highest j l (and_left (is_readable (record_at s j)) _ e) q

      beaten : (j ≡ k → ⊥) → supersedes (record_at s k) k (record_at s j) j ≡ true
      beaten d =
          true_supersedes (record_at s k) k (record_at s j) j
          (record { readable = b.readable; peer = b.peer ∙ sym q; serial = h.0; later = λ t. omega (arith, h.1 t, d) })

      other : (j ≡ k → ⊥) → ⊥
      other d =
          let u : supersedes (record_at s k) k (record_at s j) j ≡ true = beaten d in
          let v : supersedes (record_at s k) k (record_at s j) j ≡ false =
          not_of _ (all_each _ (count_in s) (and_right (is_readable (record_at s j)) _ e) k b.below)
          in
          let z : ◌≡◌ {A = ℕ} 0 1 = cc in omega arith
