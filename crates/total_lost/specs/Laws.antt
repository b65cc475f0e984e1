-- The lost counts below an index summed, one slot further: what a loop's proof cites. Assumes nothing.
use Rattle.std.specs.Prelude.{◌≡◌, ℕ, zero, suc, ◌+◌, ◌%◌, ◌^◌, List, slice_index_or, refl}
use Rattle.std.proofs.Common.{ap, add-one, arith}
use Rattle.slot.specs.declared.ConnectionStorage.{ConnectionStorage}
use Rattle.slot.specs.Fresh.{blank_slot}
use Rattle.model.specs.Find.{lost_of}

-- the counts of the first n slots, wrapped
abbrev pub lost_below : ℕ → List ConnectionStorage → ℕ
lost_below n ss = lost_of ss n 0 % 2 ^ 32

-- the last slot of n + 1
lost_last : (ss : List ConnectionStorage) (n i j : ℕ) → j ≡ i + n → lost_of ss (suc n) i ≡ lost_of ss n i + (slice_index_or ss j blank_slot).lost
unfolding lost_of
lost_last ss zero i j e = let p : i ≡ j = omega arith in omega (arith, ap (λ (k : ℕ). (slice_index_or ss k blank_slot).lost) p)
lost_last ss (suc n) i j e = omega (arith, lost_last ss n (i + 1) j (omega arith))

pub lost_none : (ss : List ConnectionStorage) → 0 ≡ lost_below 0 ss
unfolding lost_of
lost_none ss = refl

-- one slot more is added
pub lost_next : (ss : List ConnectionStorage) (i total : ℕ) → total ≡ lost_below i ss
    → (total + (slice_index_or ss i blank_slot).lost) % 2 ^ 32 ≡ lost_below (i + 1) ss
lost_next ss i total e = omega (arith, e, lost_last ss i 0 i (omega arith), ap (λ (k : ℕ). lost_of ss k 0) (add-one i))
