pub mod Keeping
pub mod Wanting
