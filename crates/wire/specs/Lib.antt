pub mod Wire
pub mod Laws
pub mod Numbers
