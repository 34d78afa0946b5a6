pub mod Binding
pub mod Errors
pub mod Giving
pub mod Laws
pub mod Returning
pub mod Starts
pub mod Without
