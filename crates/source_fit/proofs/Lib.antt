pub mod Values
pub mod Meanings
pub mod Mains
-- Lemmas of the libraries below, passed on.
pub use Rattle.run_fit.proofs.Containers
pub use Rattle.run_fit.proofs.Effects
