pub mod Row
pub mod Files
pub mod Rows
pub mod Pinned
