pub mod Cycle
pub mod Cases
pub mod Linked
