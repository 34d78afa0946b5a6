pub mod Calls
pub mod World
-- Definitions of the libraries below that clauses here speak of, passed on.
pub use Rattle.number_ops.specs.Casts
pub use Rattle.number_ops.specs.Operators
pub use Rattle.number_ops.specs.Outcomes
pub use Rattle.number_ops.specs.Relations
