pub mod WokenSet
