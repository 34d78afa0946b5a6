pub mod Containers
pub mod Iterators
pub mod Laws
