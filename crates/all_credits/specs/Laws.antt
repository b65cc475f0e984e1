-- The slots below a count set, one slot further: what the loop's proof cites. Assumes nothing.
use Rattle.std.specs.Prelude.{ℕ, zero, suc, ◌+◌, ◌≡◌, refl, List, [], ◌∷◌, get_or, set}
use Rattle.std.proofs.Common.{sym, ap, ◌∙◌, add-one}
use Rattle.slot.specs.declared.ConnectionStorage.{ConnectionStorage}
use Rattle.slot.specs.declared.ConnectionManager.{ConnectionManager}
use Rattle.slot.specs.Fresh.{blank_slot}
use Rattle.slot.specs.Set.{set_link_credits, set_connections, set_default_link_credits}
use Rattle.model.specs.Calls.{with_credits_below}

-- past the end `set` changes nothing, so the length does not matter
pub below_next : (c : ℕ) (ss : List ConnectionStorage) (i : ℕ)
    → set (with_credits_below c i ss) i (set_link_credits (get_or (with_credits_below c i ss) i blank_slot) c) ≡ with_credits_below c (suc i) ss
below_next c [] zero = refl
below_next c [] (suc i) = refl
below_next c (s ∷ ss) zero = refl
below_next c (s ∷ ss) (suc i) = ap {B = List ConnectionStorage} (λ r. set_link_credits s c ∷ r) (below_next c ss i)

-- the table with these slots and c credits by default
abbrev pub with_slots : ConnectionManager → ℕ → List ConnectionStorage → ConnectionManager
with_slots t c ss = set_default_link_credits (set_connections t ss) c

-- one slot more is stored, and the rest of the table is kept
pub next : (u t : ConnectionManager) (c : ℕ) (ss : List ConnectionStorage) (i : ℕ) → u ≡ with_slots t c (with_credits_below c i ss)
    → with_slots u u.default_link_credits
    (set u.connections i (set_link_credits (get_or u.connections i blank_slot) c))
    ≡ with_slots t c (with_credits_below c (i + 1) ss)
next u t c ss i e =
    ap
    (λ (x : ConnectionManager).
    with_slots x x.default_link_credits
    (set x.connections i (set_link_credits (get_or x.connections i blank_slot) c)))
    e
    ∙ ap (with_slots t c) (below_next c ss i ∙ ap (λ (k : ℕ). with_credits_below c k ss) (sym (add-one i)))
