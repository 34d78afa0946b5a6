pub mod Split
pub mod Names
pub mod Numbers
pub mod Quoted
pub mod Seen
