pub mod Stages
pub mod Programs
pub mod Preludes
pub mod Executables
pub mod Seen
pub mod Compiling
pub mod Ends
pub mod Fitting
pub mod Running
pub mod Typed
pub mod Codes
pub mod Laws
pub mod Keeping
-- Definitions of the libraries below that clauses here speak of, passed on.
pub use Rattle.codegen.specs.Programs as SourceMeaningPrograms
pub use Rattle.compiled_outcome.specs.Agreeing
pub use Rattle.compiled_outcome.specs.Types
pub use Rattle.compiled_outcome.specs.World
pub use Rattle.pl_code.specs.Listing
pub use Rattle.pl_code.specs.declared as pl_code_declared
pub use Rattle.static_types.specs.typing_rules_declared
pub use Rattle.typing_soundness.specs.Laws as TypingSoundnessLaws
pub use Rattle.typing_soundness.specs.ProgramRules
pub use Rattle.typing_soundness.specs.Worlds
pub use Rattle.verified_machine.specs.CodeRules
pub use Rattle.verified_machine.specs.Faults
pub use Rattle.verified_machine.specs.Machine
pub use Rattle.verified_machine.specs.Rows
pub use Rattle.verified_machine.specs.machine_declared
