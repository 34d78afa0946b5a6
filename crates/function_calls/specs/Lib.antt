pub mod Applying
pub mod Coming
pub mod Laws
pub mod Passing
pub mod Targets
