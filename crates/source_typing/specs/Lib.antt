pub mod Outs
pub mod Laws
-- Definitions of the libraries below that clauses here speak of, passed on.
pub use Rattle.program_typing.specs.Agreeing
pub use Rattle.program_typing.specs.Reached
pub use Rattle.program_typing.specs.Types
pub use Rattle.source_fit.specs.Falls
pub use Rattle.source_fit.specs.Meaning
pub use Rattle.source_fit.specs.Outs as SourceFitOuts
pub use Rattle.source_fit.specs.ProgramRules
pub use Rattle.source_fit.specs.Programs
pub use Rattle.source_fit.specs.Tree
pub use Rattle.value_typing.specs.ContainerCallsMembers
pub use Rattle.value_typing.specs.Members
pub use Rattle.value_typing.specs.Types as ContainerOpsTypes
pub use Rattle.value_typing.specs.Typing
pub use Rattle.value_typing.specs.Worlds
