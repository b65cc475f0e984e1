-- The exchange by the specification beside the old one, and its look-up. Statements with their proofs: `SameExchange` and `Stays23`,
-- what it gives on a live link; `NotLive`, without one; and `SettledIsLookedUp`. MtuCase.antt has cases. Assumes nothing.
use Rattle.std.specs.Prelude.{ℕ, ◌<◌, ◌≤◌, min, ◌≡◌, refl, true, List, [], ◌∷◌, leb}
use Rattle.std.proofs.Common.{sym, ap, arith, leb-true, leb-false, le-leb, ne_eqb}
use Rattle.slot.specs.declared.ConnectionStorage.{ConnectionStorage}
use Rattle.slot.specs.declared.ConnectionManager.{ConnectionManager}
use Rattle.slot.specs.declared.Located.{Located}
use Rattle.slot.specs.declared.Located.TheVariants.{Setup, Absent, At}
use Rattle.slot.specs.declared.Woken.TheVariants.{Nobody}
use Rattle.slot.specs.Set.{set_att_mtu}
use Rattle.state.specs.State.{is_live}
use Rattle.model.specs.Answer.{Outcome, ok, unmoved}
use Rattle.model.specs.Find.{slot_at, locate, fits, by_live}
use Rattle.model.specs.Link.{exchange_att_mtu, negotiate_att_mtu, get_stored_att_mtu, by_specification, absent}
use Rattle.model.specs.Calls.{on_link, run, put, settle, done}
use Rattle.model.proofs.Laws.{split, located, and_left}
use Rattle.model.proofs.Alike.{locate_alike}
use Rattle.model_theorems.proofs.Reach.{put_here}
use Rattle.model_theorems.proofs.Own.{live_open}
use Rattle.model_theorems.proofs.Withdrawn.{open_place}

-- what the old exchange stores, where that is 23 or more; else 23
pub from_23 : (d m : ℕ) → 23 ≤ min d m → by_specification d m ≡ min d m
from_23 d m h = rw (le-leb 23 d (omega arith), le-leb 23 m (omega arith))

pub below_23 : (d m : ℕ) → min d m < 23 → by_specification d m ≡ 23
below_23 d m h =
    split (leb 23 d)
    (λ f.
    split (leb 23 m) (λ g. absurd (omega (arith, h, leb-true 23 d f, leb-true 23 m g))) (λ g. rw (f, g)))
    (λ f. rw f)

pub at_least_23 : (d m : ℕ) → 23 ≤ by_specification d m
at_least_23 d m =
    split (leb 23 (min d m))
    (λ f. omega (arith, from_23 d m (leb-true 23 (min d m) f), leb-true 23 (min d m) f))
    (λ f. omega (arith, below_23 d m (leb-false 23 (min d m) f)))

-- ---- the look-up after the exchange, by what the search finds

module _ (h m : ℕ) (t : ConnectionManager) where
  abbrev d : ℕ
  d = t.default_att_mtu

  looked : (f : Located) → locate (fits by_live h) t ≡ f
      → (run (on_link get_stored_att_mtu h) (settle (absent (negotiate_att_mtu m) d) (done (negotiate_att_mtu m) t) t f).table).reply
      ≡ (settle (absent (negotiate_att_mtu m) d) (done (negotiate_att_mtu m) t) t f).reply
  looked Setup e = rw e
  looked Absent e = rw e
  looked (At i) e =
      let found = located (fits by_live h) t i e in
      let live : is_live (slot_at t i).state ≡ true = and_left _ _ found.2 in
      let s : ConnectionStorage = set_att_mtu (slot_at t i) (by_specification d m) in
      rw (
        locate_alike t i s refl refl (fits by_live h) (λ j. refl),
        e,
        put_here t i s (open_place t i (live_open (slot_at t i).state live)),
        ne_eqb (by_specification d m) 0 (λ p. omega (arith, at_least_23 d m)),
      )

-- what was settled is what the look-up answers, by the same handle and in every table, reached or not: 8, 23 where no slot is
-- live, or the number stored
unfoldable pub SettledIsLookedUp : Type 0
SettledIsLookedUp =
    (h m : ℕ) (t : ConnectionManager)
    → (run (on_link get_stored_att_mtu h) (run (on_link (negotiate_att_mtu m) h) t).table).reply ≡ (run (on_link (negotiate_att_mtu m) h) t).reply

pub settled_is_looked_up : SettledIsLookedUp
unfolding SettledIsLookedUp
settled_is_looked_up h m t = looked h m t (locate (fits by_live h) t) refl

-- ---- "both offers at least 23 give the lower one", as the old exchange did: on a live link the whole outcome is the old one's

unfoldable pub SameExchange : Type 0
SameExchange =
    (h m i : ℕ) (t : ConnectionManager) → locate (fits by_live h) t ≡ At i → 23 ≤ min t.default_att_mtu m
    → run (on_link (negotiate_att_mtu m) h) t ≡ run (on_link (exchange_att_mtu m) h) t

pub same_exchange : SameExchange
unfolding SameExchange
same_exchange h m i t e b =
    rw (e, from_23 t.default_att_mtu m b, ne_eqb (min t.default_att_mtu m) 0 (omega (arith, b)))

-- ---- "where either side's offer is under 23 the size stays 23": that is answered, and stored

unfoldable pub Stays23 : Type 0
Stays23 =
    (h m i : ℕ) (t : ConnectionManager) → locate (fits by_live h) t ≡ At i → min t.default_att_mtu m < 23
    → run (on_link (negotiate_att_mtu m) h) t
    ≡ record { reply = ok (23 ∷ []); woken = Nobody; table = put t i (set_att_mtu (slot_at t i) 23) }

pub stays_23 : Stays23
unfolding Stays23
stays_23 h m i t e b = rw (e, below_23 t.default_att_mtu m b)

-- ---- without a live slot: 8 as the old one; else 23 and nothing stored, as the old one for an offer of 23 alone

unfoldable pub NotLive : Type 0
NotLive =
    (h m : ℕ) (t : ConnectionManager)
    → (locate (fits by_live h) t ≡ Setup → run (on_link (negotiate_att_mtu m) h) t ≡ run (on_link (exchange_att_mtu m) h) t)
    × (locate (fits by_live h) t ≡ Absent
    → (run (on_link (negotiate_att_mtu m) h) t ≡ unmoved (ok (23 ∷ [])) t)
    × (run (on_link (negotiate_att_mtu m) h) t ≡ run (on_link (exchange_att_mtu m) h) t → m ≡ 23))

same_offer : (m : ℕ) → ◌≡◌ {A = List ℕ} (23 ∷ []) (m ∷ []) → m ≡ 23
same_offer m e = let q : 23 ≡ m = cc in sym q

pub not_live : NotLive
unfolding NotLive
not_live h m t = (λ e. rw e, λ e. (rw e, λ p. same_offer m (ap (λ (o : Outcome). o.reply.values) (rw e at p))))
