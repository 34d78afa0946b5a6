pub mod Arguments
pub mod Builders
pub mod Exceptions
pub mod Joining
pub mod Laws
pub mod Making
pub mod Members
pub mod Outcomes
pub mod Pieces
pub mod Sequences
pub mod Texts
pub mod Writing
-- Definitions of the libraries below that clauses here speak of, passed on.
pub use Rattle.value_walks.specs.Equality
pub use Rattle.value_walks.specs.declared as value_walks_declared
