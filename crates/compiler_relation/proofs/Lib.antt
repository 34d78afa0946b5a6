pub mod Locals
pub mod Follows
pub mod Refines
pub mod Nodes
pub mod Simulates
pub mod Correct
pub mod Example
pub mod Covers
