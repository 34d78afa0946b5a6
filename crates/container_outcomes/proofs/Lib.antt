pub mod Fitting
pub mod Settling
-- Lemmas of the libraries below, passed on.
pub use Rattle.value_walks.proofs.Stepping
