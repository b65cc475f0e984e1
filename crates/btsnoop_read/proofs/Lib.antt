pub mod Inverse
pub mod Linked
