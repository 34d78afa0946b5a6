pub mod Floats
pub mod Telling
