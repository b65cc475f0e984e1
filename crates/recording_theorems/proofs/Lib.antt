pub mod Union
pub mod Reach
pub mod Before
pub mod Counts
pub mod Written
pub mod Cases
