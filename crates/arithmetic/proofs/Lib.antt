pub mod Division
pub mod LowBits
pub mod Quotients
