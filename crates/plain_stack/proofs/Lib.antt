pub mod Gathering
pub mod Lowest
