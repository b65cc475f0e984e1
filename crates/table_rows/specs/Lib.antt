-- The cases of document 01 that are table steps, computed: Row says what a case is, Rows collects them.
pub mod Row
pub mod Shared
pub mod Others
pub mod Tables
pub mod Lost
pub mod Withdrawn
pub mod Mtu
pub mod Life
pub mod Pool
pub mod Rows
