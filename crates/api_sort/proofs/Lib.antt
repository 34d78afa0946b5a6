pub mod Agreeing
pub mod Fitting
pub mod Signs
pub mod Sorts
pub mod Steps
