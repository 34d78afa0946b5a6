pub mod Limits
pub mod Requests
pub mod Heard
