pub mod Outcomes
pub mod Scopes
pub mod State
pub mod Doing
pub mod Rules
pub mod Typing
