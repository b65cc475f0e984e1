-- The proof of `RecordedAccepts`. Assumes nothing.
use Rattle.std.specs.Prelude.{ℕ, zero, suc, ◌<◌, ◌≡◌, refl, Bool, true, false, cond, ◌||◌, List, [], ◌∷◌, eqb}
use Rattle.std.proofs.Common.{ap, ◌∙◌, arith}
use Rattle.state.specs.State.{is_connecting}
use Rattle.slot.specs.declared.Address.{Address}
use Rattle.slot.specs.declared.LeConnRole.{LeConnRole}
use Rattle.slot.specs.declared.ConnectionManager.{ConnectionManager}
use Rattle.slot.specs.declared.Located.{Located}
use Rattle.slot.specs.declared.Located.TheVariants.{Setup, Absent, At}
use Rattle.model.specs.Answer.{Refusal, Reply, refusal, ok}
use Rattle.model.specs.Find.{slot_at, well_formed, locate}
use Rattle.model.specs.Calls.{same_role, same_address, among, accepts, accepted_at, settle, poll_accept}
use Rattle.model.proofs.Laws.{and_left, and_right, located}
use Rattle.peer_records.specs.Format.{count_in, is_file, records_fit, record_at, peer_in}
use Rattle.peer_records.specs.Force.{in_force_for, peers_below, peers_in}
use Rattle.peer_records.proofs.One.{same_eq}
use Rattle.accept_recorded.specs.Recorded.{poll_peers}
use Rattle.recorded_theorems.specs.Statement.{Recorded, RecordedAccepts}

-- a peer among those in force has a record among them
abbrev InForceOf : List ℕ → LeConnRole → Address → ℕ → Type 0
InForceOf s r p n = (k : ℕ) × (k < n) × (in_force_for s r k ≡ true) × ((peer_in (record_at s k)) ≡ p)

record_of : (s : List ℕ) (r : LeConnRole) (p : Address) (n : ℕ) → among (peers_below s r n) p ≡ true → InForceOf s r p n
unfolding peers_below
record_of s r p zero e = let z : ◌≡◌ {A = ℕ} 0 1 = cc in absurd (omega arith)
record_of s r p (suc n) e = go (in_force_for s r n) refl e (record_of s r p n)
  where
    further : InForceOf s r p n → InForceOf s r p (suc n)
    further (k, l, f, q) = (k, omega arith, f, q)

    go : (x : Bool) → in_force_for s r n ≡ x → among (cond x ((peer_in (record_at s n)) ∷ peers_below s r n) (peers_below s r n)) p ≡ true
        → (among (peers_below s r n) p ≡ true → InForceOf s r p n)
        → InForceOf s r p (suc n)
    go false q e ih = further (ih e)
    go true q e ih = by (same_address (peer_in (record_at s n)) p) refl e
      where
        by : (y : Bool) → same_address (peer_in (record_at s n)) p ≡ y → (y || among (peers_below s r n) p) ≡ true → InForceOf s r p (suc n)
        by true m e = (n, omega arith, q, same_eq _ _ m)
        by false m e = further (ih e)

-- an answer with values is no refusal
refused : (x : Refusal) (i : ℕ) → refusal x ≡ ok (i ∷ []) → ⊥
refused x i e = let z : ◌≡◌ {A = List ℕ} [] (i ∷ []) = ap (λ (a : Reply). a.values) e in let y : ◌≡◌ {A = ℕ} 0 1 = cc in omega arith

module _ (r : LeConnRole) (t : ConnectionManager) (i : ℕ) where
  -- what the old poll accepts
  record Accepted (ps : List Address) : Type 0 where
    slot : i < t.count
    connecting : is_connecting (slot_at t i).state ≡ true
    role : same_role r (slot_at t i).role ≡ true
    peer : among ps (slot_at t i).peer_identity ≡ true

  accepted : (p : Address) (ps : List Address) → (poll_accept r (p ∷ ps) t).reply ≡ ok (i ∷ []) → Accepted (p ∷ ps)
  accepted p ps e = found (locate (accepts r (p ∷ ps)) t) refl e
    where
      at : (j : ℕ) → locate (accepts r (p ∷ ps)) t ≡ At j → j ≡ i → Accepted (p ∷ ps)
      at j q h =
          let l = located (accepts r (p ∷ ps)) t i (q ∙ ap At h) in
          let c = and_right (is_connecting (slot_at t i).state) _ l.2 in
          record {
            slot = l.1;
            connecting = and_left (is_connecting (slot_at t i).state) _ l.2;
            role = and_left (same_role r (slot_at t i).role) _ c;
            peer = and_right (same_role r (slot_at t i).role) _ c;
          }

      found : (f : Located) → locate (accepts r (p ∷ ps)) t ≡ f
          → (settle (refusal Refusal.Pending) (λ j. accepted_at j (slot_at t j)) t f).reply ≡ ok (i ∷ [])
          → Accepted (p ∷ ps)
      found Setup q e = absurd (refused Refusal.Setup i e)
      found Absent q e = absurd (refused Refusal.Pending i e)
      found (At j) q e = by (eqb (slot_at t j).refcount 0) refl
        where
          by : (x : Bool) → eqb (slot_at t j).refcount 0 ≡ x → Accepted (p ∷ ps)
          by true z = at j q (same_index (rw z at e))
            where
              same_index : ok (j ∷ []) ≡ ok (i ∷ []) → j ≡ i
              same_index w = let v : ◌≡◌ {A = List ℕ} (j ∷ []) (i ∷ []) = ap (λ (a : Reply). a.values) w in cc
          by false z = absurd (refused Refusal.Refs i (rw z at e))

  with_peers : (ps : List Address) → (poll_peers r ps t).reply ≡ ok (i ∷ []) → Accepted ps
  with_peers [] e = absurd (refused Refusal.Pending i e)
  with_peers (p ∷ ps) e = accepted p ps e

pub recorded_accepts : RecordedAccepts
unfolding RecordedAccepts
recorded_accepts r s t i e = formed (well_formed t) refl
  where
    searched : (poll_peers r (peers_in s r) t).reply ≡ ok (i ∷ []) → Recorded r s t i
    searched q =
        let a = with_peers r t i (peers_in s r) q in
        let k = record_of s r (slot_at t i).peer_identity (count_in s) a.peer in
        record {
          slot = a.slot;
          connecting = a.connecting;
          role = a.role;
          which = k.0;
          below = k.1;
          in_force_lem = k.2;
          peer = k.3;
        }

    values : well_formed t ≡ true → is_file s ≡ true → (x : Bool) → records_fit s ≡ x → Recorded r s t i
    values w f true g = searched (rw (w, f, g) at e)
    values w f false g = absurd (refused Refusal.Values i (rw (w, f, g) at e))

    file : well_formed t ≡ true → (x : Bool) → is_file s ≡ x → Recorded r s t i
    file w true f = values w f (records_fit s) refl
    file w false f = absurd (refused Refusal.Pairs i (rw (w, f) at e))

    formed : (x : Bool) → well_formed t ≡ x → Recorded r s t i
    formed true w = file w (is_file s) refl
    formed false w = absurd (refused Refusal.Setup i (rw w at e))
