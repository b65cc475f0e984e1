pub mod Balance
pub mod NewBalance
pub mod ReachedBalance
pub mod Waits
pub mod Turns
pub mod Idle
pub mod Cases
