-- The exchange by the specification beside the old one.
pub mod Mtu
