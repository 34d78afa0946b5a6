pub mod Words
pub mod Instructions
pub mod Listing
pub mod Lines
pub mod Reading
pub mod Seen
pub mod Faults
