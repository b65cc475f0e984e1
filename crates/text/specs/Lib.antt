pub mod Text
pub mod Bytes
pub mod Append
pub mod Ascii
