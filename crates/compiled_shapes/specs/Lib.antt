pub mod Laws
-- Definitions of the libraries below that clauses here speak of, passed on.
pub use Rattle.compiler_relation.specs.Correct
pub use Rattle.compiler_relation.specs.Parts
pub use Rattle.compiler_relation.specs.Representation
pub use Rattle.compiler_relation.specs.Stands
pub use Rattle.program_typing.specs.Agreeing
pub use Rattle.program_typing.specs.Falls
pub use Rattle.program_typing.specs.Programs
pub use Rattle.program_typing.specs.Reached
pub use Rattle.program_typing.specs.Tree
