pub mod Returns
pub mod Values
pub mod Bytes
