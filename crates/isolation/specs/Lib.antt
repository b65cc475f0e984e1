pub mod Code
pub mod Machine
