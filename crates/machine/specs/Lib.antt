pub mod Seen
pub mod Rows
pub mod Memory
pub mod Members
pub mod Sparing
pub mod Runs
pub mod Activations
pub mod Fitting
pub mod Laws
-- Definitions of the libraries below that clauses here speak of, passed on.
pub use Rattle.machine_parts.specs.Code
pub use Rattle.machine_parts.specs.Links
pub use Rattle.machine_parts.specs.Rooms
pub use Rattle.machine_paths.specs.CodeRules
pub use Rattle.machine_paths.specs.Moments
