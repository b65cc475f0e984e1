-- What a search finds, the pass that finds it, and the laws that the proofs cite.
pub mod Found
pub mod Pass
pub mod Search
