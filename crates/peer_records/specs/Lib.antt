-- A file of peer records. Format has its bytes and what is refused, Force which record of a peer counts; One says that exactly one
-- does, Latest proves it and that one pass over the file finds it, Apart what 22 and 23 keep out; Case has cases, and Below is about the
-- first n of something.
pub mod Below
pub mod Format
pub mod Force
pub mod One
pub mod Latest
pub mod Apart
