pub mod Outcome
-- Lemmas of the libraries below, passed on.
pub use Rattle.program_typing.proofs.Enough
