pub mod Calls
pub mod Outcomes
pub mod Machine
pub mod Made
