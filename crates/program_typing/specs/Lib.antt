pub mod Types
pub mod Agreeing
pub mod Reached
pub mod Enough
-- Definitions of the libraries below that clauses here speak of, passed on.
pub use Rattle.source_meaning.specs.Falls
pub use Rattle.source_meaning.specs.Laws
pub use Rattle.source_meaning.specs.Meaning
pub use Rattle.source_meaning.specs.Programs
pub use Rattle.source_meaning.specs.Tree
