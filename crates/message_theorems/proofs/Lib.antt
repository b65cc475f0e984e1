pub mod Runs
pub mod Credits
pub mod Pool
pub mod PoolCases
pub mod Instances
pub mod Left
pub mod Answers
