pub mod Format
pub mod Read
pub mod Laws
pub mod Head
