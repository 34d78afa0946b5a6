pub mod Order
pub mod Periods
pub mod Places
pub mod Utf16
pub mod WholeNumber
pub mod Shared
