-- `poll_accept` with the peers of any set.
pub mod Accept
