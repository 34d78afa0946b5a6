pub mod Outs
pub mod ProgramRules
pub mod Laws
-- Definitions of the libraries below that clauses here speak of, passed on.
pub use Rattle.source_meaning.specs.Falls
pub use Rattle.source_meaning.specs.Meaning
pub use Rattle.source_meaning.specs.Members
pub use Rattle.source_meaning.specs.Operating
pub use Rattle.source_meaning.specs.Programs
pub use Rattle.source_meaning.specs.Tree
