pub mod Answer
pub mod Take
