pub mod Contexts
pub mod Keys
pub mod Rows
pub mod Limits
pub mod Values
pub mod Mappings
pub mod Jobs
pub mod Answers
