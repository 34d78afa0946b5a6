pub mod Beside
pub mod Stages
pub mod Placed
pub mod Compiled
pub mod Ends
pub mod Fitting
pub mod Typed
pub mod Left
pub mod Runs
pub mod Counted
pub mod Listed
pub mod Words
pub mod Texts
pub mod Keeping
-- Lemmas of the libraries below, passed on.
pub use Rattle.typing_soundness.proofs.Types
