-- What a call does with the slot that was found, and the law by which each call is settled. Resolve has definitions; Settle
-- has laws that the proofs cite.
pub mod Answer
pub mod Resolve
pub mod Settle
