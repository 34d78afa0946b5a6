pub mod Refusals
pub mod Errors
pub mod Listings
