-- What the second `poll_accept` does.
pub mod Recorded
