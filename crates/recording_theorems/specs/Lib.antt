pub mod Statement
pub mod Pinned
