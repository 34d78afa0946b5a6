pub mod Tasks
-- Definitions of the libraries below that clauses here speak of, passed on.
pub use Rattle.code_meaning.specs.Machine
pub use Rattle.code_meaning.specs.Words
pub use Rattle.code_meaning.specs.declared as code_meaning_declared
pub use Rattle.machine.specs.Activations
pub use Rattle.machine.specs.Code
pub use Rattle.machine.specs.CodeRules
pub use Rattle.machine.specs.Fitting
pub use Rattle.machine.specs.Moments
pub use Rattle.machine.specs.Runs
pub use Rattle.machine.specs.Seen
pub use Rattle.machine.specs.declared as machine_declared
pub use Rattle.verifier.specs.Faults
pub use Rattle.verifier.specs.Meets
pub use Rattle.verifier.specs.Verified
pub use Rattle.verifier_soundness.specs.ContainerCallsLaws
pub use Rattle.verifier_soundness.specs.Fits
pub use Rattle.verifier_soundness.specs.Rows
