pub mod Ends
pub mod Exprs
pub mod Misses
pub mod Statements
