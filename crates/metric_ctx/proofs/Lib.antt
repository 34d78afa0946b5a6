pub mod Beginning
pub mod Giving
pub mod Moving
pub mod Splitting
