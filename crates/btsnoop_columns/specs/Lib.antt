pub mod Format
pub mod Read
pub mod Answer
pub mod Statement
