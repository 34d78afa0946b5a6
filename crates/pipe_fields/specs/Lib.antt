pub mod Documents
pub mod Fields
pub mod Ways
pub mod Edits
pub mod Failures
