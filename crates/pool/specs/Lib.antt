pub mod Pool
pub mod Shared
pub mod Code
pub mod Laws
