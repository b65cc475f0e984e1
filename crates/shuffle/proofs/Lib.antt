-- What is proved of shuffles.
pub mod Serial
pub mod Past
pub mod Runs
