pub mod Arithmetic
pub mod Laws
pub mod Operators
