-- A search over the peers of a list, and one over the slots: what the proofs cite. Assumes nothing.
use Rattle.std.specs.Prelude.{ℕ, suc, ◌+◌, ◌-◌, ◌<◌, ◌≤◌, ◌≡◌, refl, Bool, true, false, ◌&&◌, List, [], ◌∷◌, length, drop, get_or, eqb}
use Rattle.std.proofs.Common.{sym, ap, ◌∙◌, arith, add-one, drop-cons}
use Rattle.std.proofs.lemmas.Bool.{false≢true}
use borrow.Author.Tests.{ne_eqb}
use Rattle.state.specs.State.{is_connecting}
use Rattle.slot.specs.declared.LeConnRole.{LeConnRole}
use Rattle.slot.specs.declared.Address.{Address}
use Rattle.slot.specs.declared.ConnectionStorage.{ConnectionStorage}
use Rattle.slot.specs.declared.ConnectionManager.{ConnectionManager}
use Rattle.slot.specs.declared.Located.{Located}
use Rattle.slot.specs.declared.Located.TheVariants.{Absent, At}
use Rattle.slot.specs.Fresh.{blank_slot}
use Rattle.model.specs.Answer.{Refusal, Local, Outcome, refusal, unmoved}
use Rattle.model.specs.Find.{Test, slot_at, well_formed, lowest}
use Rattle.model.specs.Calls.{same_role, same_address, among, fits_peers, accepts, accepted_at, settle}
use Rattle.model.proofs.Laws.{one_more, none_left, locate_setup, locate_formed}
use Rattle.model.proofs.Pooled.{accepted_moved}
use Rattle.search.specs.Found.{found_at}
use Rattle.table.specs.Resolve.{put_shared}
use Rattle.table.specs.Settle.{settles_shared}
use Rattle.accept.specs.Accept.{accepts_of, accept_by}

-- ---- a peer in a list

module _ (ps : List Address) (a d : Address) (i : ℕ) where
  pub here : i < length ps → same_address (get_or ps i d) a ≡ true → among (drop i ps) a ≡ true
  here h e = rw (drop-cons ps i d h, e)

  pub further : i < length ps → same_address (get_or ps i d) a ≡ false → among (drop i ps) a ≡ among (drop (i + 1) ps) a
  further h e = rw (add-one, drop-cons ps i d h, e)

pub some_fit : (ps : List Address) (a : Address) → among ps a ≡ true → true ≡ fits_peers ps a
some_fit [] a e = refl
some_fit (p ∷ ps) a e = sym e

pub none_fits : (ps : List Address) (a : Address) → among ps a ≡ false → eqb (length ps) 0 ≡ fits_peers ps a
none_fits [] a e = refl
none_fits (p ∷ ps) a e = ne_eqb (suc (length ps)) 0 (λ q. omega (arith, q)) ∙ sym e

-- ---- a slot

none_of : (b c : Bool) → (b && (c && false)) ≡ false
none_of true true = refl
none_of true false = refl
none_of false c = refl

other : (b c x : Bool) → (b && (c && true)) ≡ false → (b && (c && x)) ≡ false
other true true x e = absurd (false≢true (sym e))
other true false x e = refl
other false c x e = refl

module _ (r : LeConnRole) (has : Address → Bool) (i : ℕ) (s : ConnectionStorage) where
  pub fit : accepts r [] i s ≡ true → has s.peer_identity ≡ true → accepts_of r has i s ≡ true
  fit e p = rw p e

  pub other_peer : has s.peer_identity ≡ false → accepts_of r has i s ≡ false
  other_peer p = rw p (none_of (is_connecting s.state) (same_role r s.role))

  pub other_slot : accepts r [] i s ≡ false → accepts_of r has i s ≡ false
  other_slot e = other (is_connecting s.state) (same_role r s.role) _ e

-- ---- what is found among n slots, from slot i on

module _ (test : Test) (ss : List ConnectionStorage) (n i : ℕ) {f : Located} (e : f ≡ lowest test ss (n - i) i) where
  pub search_hit : i < n → test i (get_or ss i blank_slot) ≡ true → f ≡ At i
  unfolding lowest
  search_hit h q = e ∙ rw (one_more n i h, q)

  pub search_next : i < n → test i (get_or ss i blank_slot) ≡ false → f ≡ lowest test ss (n - (i + 1)) (i + 1)
  unfolding lowest
  search_next h q = e ∙ rw (one_more n i h, q)

  pub search_end : n ≤ i → f ≡ Absent
  unfolding lowest
  search_end h = e ∙ rw (none_left n i h)

-- ---- the slot that was found is accepted

module _ (test : Test) (t : ConnectionManager) where
  abbrev settled : Located → Outcome
  settled = settle (refusal Refusal.Pending) (λ i. accepted_at i (slot_at t i)) t

  pub not_formed : well_formed t ≡ false → unmoved (refusal Refusal.Setup) t ≡ accept_by test t
  not_formed w = ap settled (sym (locate_setup test t w))

  module _ (w : well_formed t ≡ true) where
    pub not_found : lowest test t.connections t.count 0 ≡ Absent → unmoved (refusal Refusal.Pending) t ≡ accept_by test t
    not_found e = ap settled (sym (locate_formed test t w ∙ e))

    pub taken : {i : ℕ} → lowest test t.connections t.count 0 ≡ At i → {l : Local} → l ≡ accepted_at i (slot_at t i)
        → {u : ConnectionManager} → u ≡ put_shared t i l.slot l.share
        → ◌≡◌ {A = Outcome} (record { reply = l.reply; woken = l.woken; table = u }) (accept_by test t)
    taken e p q =
        settles_shared test (refusal Refusal.Pending) accepted_at t (λ i s. accepted_moved i t.pool.free s)
        (ap (found_at t) (sym (locate_formed test t w ∙ e))) p q
