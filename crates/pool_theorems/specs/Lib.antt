-- The packet pool: `PoolBalance`, `PoolTurns`, `ClosedIdle` and `PoolWaits` are the statements (Statement), proved in Balance,
-- Turns, Idle and Waits. Cases has cases of each, and what the pool does not promise.
pub mod Statement
