pub mod Case
pub mod Limits
pub mod Messages
pub mod Roster
pub mod Starred
pub mod RosterCases
