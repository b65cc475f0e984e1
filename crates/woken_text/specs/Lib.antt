pub mod Woken
pub mod Laws
