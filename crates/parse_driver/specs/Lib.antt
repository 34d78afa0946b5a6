pub mod Read
pub mod Control
