-- `PoolBalance` from a new table on: c packets, and nothing held at the start. Assumes nothing.
use Rattle.std.specs.Prelude.{ℕ, ◌+◌, ◌<◌, ◌≡◌, refl, List}
use Rattle.std.proofs.Common.{◌∙◌, arith}
use Rattle.std.proofs.lemmas.List.{get_or-replicate}
use Rattle.slot.specs.Fresh.{fresh_slot, blank_slot}
use Rattle.model.specs.Find.{slot_at}
use Rattle.model.specs.Calls.{Call}
use Rattle.model.specs.History.{new, after, setup_ok}
use Rattle.model.proofs.Laws.{split}
use Rattle.model_theorems.specs.Lost.{sum}
use Rattle.model_theorems.proofs.Reach.{new_sound}
use Rattle.pool_theorems.specs.Statement.{back, held, at_start, sums, PoolBalance}
use Rattle.pool_theorems.proofs.Balance.{start_kept, pool_balance}

new_figures : (n m c : ℕ) → (new n m c).reply.number ≡ 0
    → ((new n m c).table.count ≡ n) × ((new n m c).table.pool.packets ≡ c) × ((i : ℕ) → i < 16 → (slot_at (new n m c).table i).pool_held ≡ 0)
new_figures n m c e =
    split (setup_ok n m c)
    (λ f. rw f (refl, refl, λ i h. rw (get_or-replicate 16 i fresh_slot blank_slot (omega arith))))
    (λ f. absurd (omega (arith, rw f at e)))

-- what was granted is held or came back; c stays; free packets and those that the history says are held make c
pub new_balance : (n m c : ℕ) → (new n m c).reply.number ≡ 0 → (cs : List Call)
    → let t = (new n m c).table in
    ((i : ℕ) → i < n → (slot_at (after cs t) i).pool_held + back (sums i cs t) ≡ (sums i cs t).granted)
    × ((after cs t).pool.packets ≡ c)
    × ((after cs t).pool.free + sum (λ i. held (sums i cs t)) n 0 ≡ c)
unfolding PoolBalance
new_balance n m c e cs =
    let w = new_sound n m c e in
    let z = new_figures n m c e in
    let b = pool_balance (new n m c).table w cs in (
      λ i h.
          let g = b.0 i (omega (arith, z.0)) in
          let first = z.2 i (omega (arith, z.0, w.formed.most)) in
          omega (arith, g.0, g.1, first, start_kept i cs (new n m c).table (at_start (slot_at (new n m c).table i).pool_held)),
      b.1 ∙ z.1,
      (rw z.0 at b.2) ∙ z.1,
    )
