pub mod Read
pub mod Number
pub mod Bytes
