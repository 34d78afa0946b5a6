pub mod Bytes
pub mod Talking
