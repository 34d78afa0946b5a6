pub mod Told
pub mod Typed
pub mod Sized
pub mod Keeping
pub mod Leaving
pub mod Sparing
pub mod Landing
-- Lemmas of the libraries below, passed on.
pub use Rattle.container_calls.proofs.There
pub use Rattle.container_outcomes.proofs.Fitting
