pub mod Named
pub mod Dots
