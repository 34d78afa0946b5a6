pub mod Delivered
pub mod Once
pub mod Runs
pub mod Utf8
pub mod Some
