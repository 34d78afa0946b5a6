pub mod Functions
pub mod Ends
