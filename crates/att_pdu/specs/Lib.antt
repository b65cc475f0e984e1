pub mod Format
pub mod Read
pub mod Indication
pub mod Laws
