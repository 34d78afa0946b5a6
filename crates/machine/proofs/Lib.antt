pub mod Answering
pub mod Calling
pub mod Ended
pub mod Fitted
pub mod Turning
pub mod Rows
pub mod Reaching
pub mod Given
pub mod Accessing
pub mod Landing
pub mod Linked
pub mod Taking
pub mod Spared
pub mod Spaces
pub mod Found
mod Moving
-- Lemmas of the libraries below, passed on.
pub use Rattle.machine_paths.proofs.Steps
pub use Rattle.machine_paths.proofs.Words
