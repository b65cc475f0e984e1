-- The search with the peers in force is `poll_peers`: what the proofs cite. Assumes nothing.
use Rattle.std.specs.Prelude.{ℕ, ◌+◌, ◌<◌, ◌≤◌, ◌≡◌, refl, Bool, true, false, ◌&&◌, List, [], ◌∷◌, get_or}
use Rattle.std.proofs.Common.{ap, ◌∙◌}
use Rattle.std.proofs.lemmas.Bool.{false≢true}
use Rattle.slot.specs.declared.Address.{Address}
use Rattle.slot.specs.declared.LeConnRole.{LeConnRole}
use Rattle.slot.specs.declared.ConnectionManager.{ConnectionManager}
use Rattle.slot.specs.declared.Located.TheVariants.{Absent}
use Rattle.state.specs.State.{is_connecting}
use Rattle.slot.specs.Fresh.{blank_slot}
use Rattle.model.specs.Answer.{Refusal, Outcome, refusal, unmoved}
use Rattle.model.specs.Find.{slot_at, well_formed, locate}
use Rattle.model.specs.Calls.{among, same_role, accepted_at, settle}
use Rattle.model.proofs.Laws.{lowest_none, locate_formed}
use Rattle.accept.specs.Accept.{accepts_of, accept_by}
use Rattle.peer_records.specs.Format.{is_file, records_fit}
use Rattle.peer_records.specs.Force.{peers_in}
use Rattle.accept_recorded.specs.Recorded.{poll_peers, poll_recorded}

module _ (r : LeConnRole) (t : ConnectionManager) (w : well_formed t ≡ true) where
  -- no peer: nothing is found
  none_found : locate (accepts_of r (among [])) t ≡ Absent
  none_found = locate_formed (accepts_of r (among [])) t w ∙ lowest_none (accepts_of r (among [])) t.connections t.count 0 never
    where
      never : (j : ℕ) → 0 ≤ j → j < 0 + t.count → accepts_of r (among []) j (get_or t.connections j blank_slot) ≡ true → ⊥
      never j a b e = go (is_connecting (slot_at t j).state) (same_role r (slot_at t j).role) e
        where
          go : (b c : Bool) → (b && (c && false)) ≡ true → ⊥
          go true true e = false≢true e
          go true false e = false≢true e
          go false c e = false≢true e

  pub polled : (ps : List Address) → accept_by (accepts_of r (among ps)) t ≡ poll_peers r ps t
  polled [] = ap (settle (refusal Refusal.Pending) (λ i. accepted_at i (slot_at t i)) t) none_found
  polled (p ∷ ps) = refl

-- ---- the whole, by its tests

module _ (r : LeConnRole) (s : List ℕ) (t : ConnectionManager) {x : Outcome} where
  pub not_formed : x ≡ unmoved (refusal Refusal.Setup) t → well_formed t ≡ false → x ≡ poll_recorded r s t
  not_formed e w = rw w e

  pub no_file : x ≡ unmoved (refusal Refusal.Pairs) t → well_formed t ≡ true → is_file s ≡ false → x ≡ poll_recorded r s t
  no_file e w f = rw (w, f) e

  pub no_fit : x ≡ unmoved (refusal Refusal.Values) t → well_formed t ≡ true → is_file s ≡ true → records_fit s ≡ false
      → x ≡ poll_recorded r s t
  no_fit e w f g = rw (w, f, g) e

  pub searched : x ≡ accept_by (accepts_of r (among (peers_in s r))) t → well_formed t ≡ true → is_file s ≡ true
      → records_fit s ≡ true → x ≡ poll_recorded r s t
  searched e w f g = rw (w, f, g) (e ∙ polled r t w (peers_in s r))
