pub mod Worth
pub mod Lists
pub mod Escapes
pub mod Members
pub mod NamePlaces
pub mod Quotes
pub mod BothSides
