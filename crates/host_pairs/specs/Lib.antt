pub mod Pairs
pub mod Laws
