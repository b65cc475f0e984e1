pub mod Case
pub mod Replayed
pub mod Written
pub mod Hold
