pub mod Script
pub mod Codes
pub mod Evaluation
pub mod Answers
pub mod Outcomes
pub mod Tellings
-- Definitions of the libraries below that clauses here speak of, passed on.
pub use Rattle.script_engine.specs.Laws
