pub mod Plain
pub mod PlainParses
