pub mod Case
pub mod Rows
pub mod Hold
pub mod Numbers
