pub mod Arguments
pub mod Starts
pub mod Changing
pub mod Replied
-- Lemmas of the libraries below, passed on.
pub use Rattle.line_run.proofs.Pass
pub use Rattle.line_run.proofs.Talks
