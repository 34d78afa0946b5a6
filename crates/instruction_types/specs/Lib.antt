pub mod Types
pub mod Members
pub mod Effects
pub mod Faults
pub mod Seen
pub mod Calls
