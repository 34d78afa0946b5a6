pub mod Rows
pub mod Fits
pub mod Bounds
pub mod Laws
-- Definitions of the libraries below that clauses here speak of, passed on.
pub use Rattle.code_meaning.specs.Machine
pub use Rattle.code_meaning.specs.Types
pub use Rattle.code_meaning.specs.declared as code_meaning_declared
pub use Rattle.member_calls.specs.ContainerCallsLaws
