-- A link's credits over one life: Statement has `CreditBalance` and `CreditBound`, proved in Balance (from Entries, call by call) and
-- in Bound. Cases has a case of each, and the histories that break the bound without one part of its premise.
pub mod Statement
