pub mod Keeping
pub mod Renewing
pub mod Standing
