pub mod SameKinds
pub mod Numerals
pub mod Unwound
pub mod Linked
pub mod Places
