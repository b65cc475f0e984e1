-- The proofs of the statements in specs/, and cases of each: `Demand3` (Order, from Reach, Keep and Own; Shuffled is a case of it),
-- every reached table is well formed (Reach), `Refusals` (Left, with its cases in Refused), `LostByLink` and `SlotAlone` (Losses and
-- Order, with cases in LostCase and Shuffled), and `AskWithdraw` (Withdrawn, with its cases).
pub mod Keep
pub mod Reach
pub mod Losses
pub mod Left
pub mod Refused
pub mod Own
pub mod Order
pub mod Shuffled
pub mod LostCase
pub mod Withdrawn
