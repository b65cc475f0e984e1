-- What is proved of the definitions.
pub mod One
pub mod Newest
pub mod Apart
pub mod Case
pub mod Highest
pub mod Linked
