pub mod Entries
pub mod Balance
pub mod Bound
pub mod Cases
