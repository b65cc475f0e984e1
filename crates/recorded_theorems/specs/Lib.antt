-- The second `poll_accept`: Statement has what is promised, Runs and Accepts the proofs, and Cases a case of each.
pub mod Statement
