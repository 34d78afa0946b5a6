pub mod Wanted
pub mod References
pub mod Bodies
pub mod Chosen
pub mod Captures
pub mod Entering
