pub mod Clashes
pub mod Confined
pub mod Inheriting
pub mod Members
pub mod Places
pub mod Tables
pub mod Taking
