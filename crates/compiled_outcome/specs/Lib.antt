pub mod Outcome
-- Definitions of the libraries below that clauses here speak of, passed on.
pub use Rattle.compiler_relation.specs.Correct
pub use Rattle.compiler_relation.specs.Representation
pub use Rattle.compiler_relation.specs.Stands
pub use Rattle.program_typing.specs.Agreeing
pub use Rattle.program_typing.specs.Enough
pub use Rattle.program_typing.specs.Reached
pub use Rattle.program_typing.specs.Types
pub use Rattle.run_state.specs.World
