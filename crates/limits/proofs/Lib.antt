-- The tests of the code.
pub mod Laws
pub mod Linked
