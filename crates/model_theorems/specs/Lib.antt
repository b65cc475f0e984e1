-- The statements over the definitions: refusals leave what document 01's table names (Refusals), what the lost counts are (Lost), a
-- disconnect request called off leaves the table as it was (Withdraw), and what is shown of every reached table (Sound). What proves
-- them, and `Demand3`, is in proofs/.
pub mod Refusals
pub mod Lost
pub mod Withdraw
pub mod Sound
