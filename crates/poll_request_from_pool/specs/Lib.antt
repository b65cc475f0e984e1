pub mod Answer
pub mod Ask
