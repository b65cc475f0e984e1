-- The definitions about one slot: the fresh slot, the number of a role, and a slot or a table with one field changed.
pub mod Fresh
pub mod Role
pub mod Set
