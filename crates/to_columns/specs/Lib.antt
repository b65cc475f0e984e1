pub mod Answer
pub mod Cells
pub mod Put
