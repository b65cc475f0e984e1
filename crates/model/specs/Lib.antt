-- What a table is and what every call of documents 01 and 02 does to it. Read in this order.
pub mod Answer
pub mod Find
pub mod Link
pub mod Calls
pub mod History
pub mod Demand3
