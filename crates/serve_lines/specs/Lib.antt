pub mod Commands
pub mod Seen
