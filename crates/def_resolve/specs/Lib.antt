pub mod Accesses
pub mod Failures
pub mod Functions
pub mod Laws
pub mod Resolution
