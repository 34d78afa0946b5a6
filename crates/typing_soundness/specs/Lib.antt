pub mod Laws
-- Definitions of the libraries below that clauses here speak of, passed on.
pub use Rattle.source_typing.specs.Outs
pub use Rattle.source_typing.specs.ProgramRules
pub use Rattle.source_typing.specs.SourceFitOuts
pub use Rattle.source_typing.specs.Typing
pub use Rattle.source_typing.specs.Worlds
