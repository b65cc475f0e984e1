pub mod Reach
pub mod Pool
pub mod Refusals
pub mod Numbers
