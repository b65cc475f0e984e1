-- What an answer stands for, and what a call reads of the table.
pub mod Answer
pub mod View
