pub mod BigEndian
pub mod Laws
