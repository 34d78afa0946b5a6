pub mod FirstBytes
pub mod Talks
