pub mod Stacks
pub mod Expressions
pub mod Places
pub mod Statements
pub mod Bodies
pub mod Members
