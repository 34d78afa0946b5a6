pub mod Equality
pub mod Outputs
pub mod Texts
