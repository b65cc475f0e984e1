-- What is proved of the definitions.
pub mod Laws
pub mod Linked
