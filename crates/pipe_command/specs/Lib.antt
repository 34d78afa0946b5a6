pub mod Pipelines
pub mod Answering
pub mod Telling
pub mod Preparing
-- Definitions of the libraries below that clauses here speak of, passed on.
pub use Rattle.job_commands.specs.Generated
pub use Rattle.job_commands.specs.Tellings
