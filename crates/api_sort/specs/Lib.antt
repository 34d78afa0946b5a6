pub mod Choosing
pub mod Keys
pub mod Ordering
pub mod Sorting
