-- `PoolBalance` in every reached table, over the history that leads there. Assumes nothing.
use Rattle.std.specs.Prelude.{◌+◌, ◌≡◌}
use Rattle.slot.specs.declared.ConnectionManager.{ConnectionManager}
use Rattle.model.specs.History.{Reached, new}
use Rattle.model_theorems.specs.Lost.{sum}
use Rattle.pool_theorems.specs.Statement.{held, sums}
use Rattle.pool_theorems.proofs.NewBalance.{new_balance}

pub reached_balance : (t : ConnectionManager) (r : Reached t)
    → t.pool.free + sum (λ i. held (sums i r.calls (new r.slots r.packet_mtu r.packets).table)) r.slots 0 ≡ r.packets
reached_balance t r = rw r.leads at (new_balance r.slots r.packet_mtu r.packets r.fresh r.calls).2
