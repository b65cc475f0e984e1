-- Stored credits are what the sums make of those at `connect`: the proof of `CreditBalance`. Assumes nothing.
use Rattle.std.specs.Prelude.{ℕ, ◌+◌, ◌<◌, ◌≡◌, refl, false, List, [], ◌∷◌, eqb, length}
use Rattle.std.proofs.Common.{sym, ap, ◌∙◌, arith, get_or-set_other, eq-eqb, ne_eqb}
use Rattle.std.proofs.lemmas.Bool.{false≢true}
use Rattle.slot.specs.declared.ConnectionStorage.{ConnectionStorage}
use Rattle.slot.specs.declared.ConnectionManager.{ConnectionManager}
use Rattle.slot.specs.declared.Address.{Address}
use Rattle.slot.specs.declared.LeConnRole.{LeConnRole}
use Rattle.slot.specs.declared.ConnParams.{ConnParams}
use Rattle.slot.specs.declared.Located.{Located}
use Rattle.slot.specs.declared.Located.TheVariants.{Setup, Absent, At}
use Rattle.slot.specs.Fresh.{blank_slot}
use Rattle.shuffle.specs.Shuffle.{by_key}
use Rattle.model.specs.Answer.{Reply, refusal, Refusal, Local}
use Rattle.model.specs.Find.{Test, slot_at, locate, fits, well_formed}
use Rattle.model.specs.Link.{Op, way_of, absent}
use Rattle.model.specs.Calls.{Call, on_link, connects, poll_accept_call, get_connection_by_peer_address_call, poll_disconnecting_call, ticket_at, set_link_credits_call, total_lost_call, poll_request_from_pool_call, pool_confirm_sent_call, pool_grant_end_call, grant_confirm, run, settle, outcome, done, is_free, is_last_life, connecting, connected_at, accepted_at}
use Rattle.model.specs.History.{after}
use Rattle.model.proofs.Laws.{split, located}
use Rattle.model_theorems.specs.Sound.{Sound}
use Rattle.model_theorems.proofs.Reach.{put_here, put_each, PoolKept, asked_kept, returned_kept, ended_kept, run_sound, reached_sound}
use Rattle.credit_balance.specs.Statement.{Entry, grants, completes, gives, nothing, entry, at, found, entry_at, Sums, added, sums_from, sets, OneLife, CreditBalance}
use Rattle.credit_balance.proofs.Entries.{Entered, same_raised, entry_right}

module _ (t : ConnectionManager) (w : Sound t) (i : ℕ) where
  within : (j : ℕ) → j < t.count → j < length t.connections
  within j g = omega (arith, w.places, w.formed.most)

  -- what a call does to slot i, where its life stays: its entry is right
  pub record Stepped (f : Located) (e : Entry) (u : ConnectionManager) : Type 0 where
    pub credits : (slot_at u i).life ≡ (slot_at t i).life
        → Entered (at i f e) (slot_at t i).link_credits (slot_at u i).link_credits

  at_nothing : (f : Located) → at i f nothing ≡ nothing
  at_nothing Setup = refl
  at_nothing Absent = refl
  at_nothing (At j) = split (eqb i j) (λ q. rw q) (λ q. rw q)

  -- without an entry
  same : {f : Located} {u : ConnectionManager} → (slot_at u i).link_credits ≡ (slot_at t i).link_credits → Stepped f nothing u
  same {f} k = record { credits = λ z. rw (at_nothing f) k }

  outcome_same : (test : Test) (none : Reply) (d : ℕ → Local) → ((j : ℕ) → (d j).slot.link_credits ≡ (slot_at t j).link_credits)
      → (slot_at (outcome test none d t).table i).link_credits ≡ (slot_at t i).link_credits
  outcome_same test none d k = go (locate test t) refl
    where
      go : (f : Located) → locate test t ≡ f → (slot_at (settle none d t f).table i).link_credits ≡ (slot_at t i).link_credits
      go Setup e = refl
      go Absent e = refl
      go (At j) e =
          put_each t j (d j).slot (λ u. u.link_credits ≡ (slot_at t i).link_credits) i
          (λ q. k j ∙ ap (λ (x : ℕ). (slot_at t x).link_credits) (sym q)) refl (within j (located test t j e).1)

  link_stepped : (op : Op) (n : ℕ) (f : Located) → locate (fits (way_of op) n) t ≡ f
      → let o = settle (absent op t.default_att_mtu) (done op t) t f in Stepped f (entry (on_link op n) o) o.table
  link_stepped op n Setup e = record { credits = λ z. refl }
  link_stepped op n Absent e = record { credits = λ z. refl }
  link_stepped op n (At j) e =
      let h = within j (located (fits (way_of op) n) t j e).1 in
      let l = done op t j in
      record {
        credits =
            λ z.
            by_key (λ (k : ℕ). k) i j
            (λ q. rw (q, eq-eqb j j refl, put_here t j l.slot h) (entry_right op t.default_att_mtu j (slot_at t j)))
            (λ q. rw (ne_eqb i j q, get_or-set_other t.connections j i l.slot blank_slot q));
      }

  -- connect: the life of its slot rises, or nothing happens
  connect_stepped : (a : ℕ) (b : Address) (r : LeConnRole) (p : ConnParams) (f : Located) → locate is_free t ≡ f
      → Stepped Absent nothing
      (settle (refusal Refusal.NotFound) (λ j. connected_at a b r p t.default_link_credits (slot_at t j)) t f).table
  connect_stepped a b r p Setup e = same refl
  connect_stepped a b r p Absent e = same refl
  connect_stepped a b r p (At j) e =
      record {
        credits =
            λ z.
            put_each t j (connected_at a b r p t.default_link_credits (slot_at t j)).slot
            (λ u. u.life ≡ (slot_at t i).life → u.link_credits ≡ (slot_at t i).link_credits) i
            (λ q y.
            split (is_last_life (slot_at t j))
            (λ f. rw (f, q))
            (λ f. absurd (omega (arith, rw (f, q) at y))))
            (λ y. refl) (within j (located is_free t j e).1) z;
      }

  accepted_same : (j : ℕ) (s : ConnectionStorage) → (accepted_at j s).slot.link_credits ≡ s.link_credits
  accepted_same j s = split (eqb s.refcount 0) (λ f. rw f) (λ f. rw f)

  credits_kept : PoolKept (λ u. u.link_credits)
  credits_kept s m = (refl, refl)

  pub stepped : (c : Call) → sets c ≡ false → Stepped (found c t) (entry c (run c t)) (run c t).table
  stepped (on_link op n) s = link_stepped op n (locate (fits (way_of op) n) t) refl
  stepped (connects a b r p) s = connect_stepped a b r p (locate is_free t) refl
  stepped (poll_accept_call r ps) s = same (outcome_same _ _ (λ j. accepted_at j (slot_at t j)) (λ j. accepted_same j (slot_at t j)))
  stepped (get_connection_by_peer_address_call a) s = same (outcome_same _ _ _ (λ j. same_raised (j ∷ []) (slot_at t j)))
  stepped poll_disconnecting_call s = same (outcome_same _ _ (λ j. ticket_at j (slot_at t j)) (λ j. refl))
  stepped (set_link_credits_call c) s = absurd (false≢true (sym s))
  stepped total_lost_call s = same (split (well_formed t) (λ f. rw f) (λ f. rw f))
  stepped (poll_request_from_pool_call a k) s =
      same (outcome_same _ _ _ (λ j. asked_kept (λ u. u.link_credits) credits_kept t.count k j (slot_at t j) t.pool))
  stepped (pool_confirm_sent_call a k) s =
      same (outcome_same _ _ _ (λ j. returned_kept (λ u. u.link_credits) credits_kept k (slot_at t j)))
  stepped (pool_grant_end_call g) s =
      same (outcome_same _ _ _ (λ j. ended_kept (λ u. u.link_credits) credits_kept g.life g.packets (slot_at t j)))
  stepped (grant_confirm g n) s = same refl

-- ---- histories

now : (i f : ℕ) (cs : List Call) (t : ConnectionManager) → OneLife i f cs t → (slot_at t i).life ≡ f
now i f [] t e = e
now i f (c ∷ cs) t e = e.0

-- with x credits at the start of the life
abbrev Balanced : ℕ → Sums → ℕ → Type 0
Balanced x b h = h + b.granted ≡ x + b.completed + b.given

balanced : (x : ℕ) (e : Entry) (b : Sums) (h h' : ℕ) → Entered e h h' → Balanced x b h → Balanced x (added e b) h'
balanced x (grants n) b h h' e q = omega arith
balanced x (completes n) b h h' e q = omega arith
balanced x (gives n) b h h' e q = omega arith
balanced x nothing b h h' e q = omega arith

pub summed : (x i f : ℕ) (cs : List Call) (t : ConnectionManager) (b : Sums) → Sound t → OneLife i f cs t
    → Balanced x b (slot_at t i).link_credits → Balanced x (sums_from i cs t b) (slot_at (after cs t) i).link_credits
summed x i f [] t b w o e = e
summed x i f (c ∷ cs) t b w o e =
    summed x i f cs (run c t).table (added (entry_at i c t) b) (run_sound c t w) o.2
    (balanced x (entry_at i c t) b _ _ ((stepped t w i c o.1).credits (now i f cs _ o.2 ∙ sym o.0)) e)

-- the slot that an accepted connect made
pub connected : (a : ℕ) (b : Address) (r : LeConnRole) (p : ConnParams) (t : ConnectionManager) (i : ℕ) → Sound t → locate is_free t ≡ At i
    → (run (connects a b r p) t).reply.number ≡ 0
    → slot_at (run (connects a b r p) t).table i ≡ connecting a b r p t.default_link_credits (slot_at t i)
connected a b r p t i w e z =
    split (is_last_life (slot_at t i))
    (λ f. absurd (omega (arith, rw (e, f) at z)))
    (λ f.
    rw (e, f)
    (put_here t i (connecting a b r p t.default_link_credits (slot_at t i))
    (omega (arith, (located is_free t i e).1, w.places, w.formed.most))))

pub credit_balance : CreditBalance
unfolding CreditBalance
credit_balance t r a b o p i e z cs life =
    let w = reached_sound t r in
    let made = (run (connects a b o p) t).table in (
      ap (λ s. s.link_credits) (connected a b o p t i w e z),
      summed (slot_at made i).link_credits i (slot_at made i).life cs made _ (run_sound (connects a b o p) t w)
          life (omega arith),
    )
