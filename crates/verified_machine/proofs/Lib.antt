mod Resting
mod Outcomes
mod Ready
pub mod Finishing
pub mod Fitted
-- Lemmas of the libraries below, passed on.
pub use Rattle.machine.proofs.Steps
pub use Rattle.machine.proofs.Turning
pub use Rattle.machine.proofs.Words
