pub mod Words
pub mod Nexts
pub mod Steps
pub mod Codes
