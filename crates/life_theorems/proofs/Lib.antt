pub mod Lives
pub mod Ended
pub mod LifeCase
