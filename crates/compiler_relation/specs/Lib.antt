pub mod Representation
pub mod Parts
pub mod Stands
pub mod Placed
pub mod Correct
pub mod Example
-- Definitions of the libraries below that clauses here speak of, passed on.
pub use Rattle.code_meaning.specs.Machine
pub use Rattle.code_meaning.specs.declared as code_meaning_declared
pub use Rattle.source_meaning.specs.Types
