pub mod Idle
pub mod Pinned
