pub mod Script
pub mod Compiling
pub mod Cache
pub mod Store
pub mod Commands
