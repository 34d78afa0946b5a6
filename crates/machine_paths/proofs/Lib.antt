pub mod Counting
pub mod Leading
pub mod Entered
pub mod Quick
pub mod Boxing
pub mod Moving
-- Lemmas of the libraries below, passed on.
pub use Rattle.code_fit.proofs.Steps
pub use Rattle.code_fit.proofs.Words
