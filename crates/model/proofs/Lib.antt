-- Laws about the definitions, for the crates above.
pub mod Laws
pub mod Alike
pub mod Pooled
pub mod Moved
