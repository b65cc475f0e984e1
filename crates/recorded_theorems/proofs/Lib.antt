pub mod Runs
pub mod Accepts
pub mod Cases
