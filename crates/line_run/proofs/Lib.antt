pub mod Alone
pub mod Lists
pub mod Pass
pub mod Talks
pub mod Unbroken
