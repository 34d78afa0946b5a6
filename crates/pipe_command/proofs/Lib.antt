pub mod Finding
pub mod Compiled
pub mod Answers
pub mod Telling
pub mod Ends
-- Lemmas of the library below, passed on.
pub use Rattle.job_commands.proofs.GeneratedTelling
pub use Rattle.job_commands.proofs.RunTelling
pub use Rattle.job_commands.proofs.Telling as JobTelling
