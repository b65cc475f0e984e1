pub mod Events
pub mod Heads
pub mod Laws
pub mod ReadBack
