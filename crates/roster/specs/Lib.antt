pub mod Roster
pub mod Sorted
pub mod Laws
