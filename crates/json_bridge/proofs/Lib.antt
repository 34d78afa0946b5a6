mod Fitting
pub mod Floats
mod Freezing
mod Growing
mod Naming
mod Others
mod Returning
mod Stepping
mod Walking
