pub mod Built
pub mod Doing
pub mod Keeping
pub mod Leaving
pub mod Needing
pub mod NumberTypes
pub mod Owners
pub mod Types
