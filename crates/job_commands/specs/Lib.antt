pub mod Contexts
pub mod Scripts
pub mod Checking
pub mod Listing
pub mod Running
pub mod Preparing
pub mod Documents
pub mod Generator
pub mod FixedJob
pub mod Answers
pub mod Summaries
pub mod Starts
pub mod Generated
pub mod GeneratedEnds
pub mod Tellings
-- Definitions of the libraries below that clauses here speak of, passed on.
pub use Rattle.script_engine.specs.Codes
pub use Rattle.script_engine.specs.Agreeing
pub use Rattle.script_engine.specs.Laws
pub use Rattle.script_engine.specs.Programs
pub use Rattle.script_engine.specs.Running as EngineRunning
pub use Rattle.script_engine.specs.Seen
pub use Rattle.script_engine.specs.SourceMeaningPrograms
pub use Rattle.script_engine.specs.Types
pub use Rattle.script_engine.specs.declared as script_engine_declared
pub use Rattle.script_engine.specs.machine_declared
pub use Rattle.job_loading.specs.Asked
