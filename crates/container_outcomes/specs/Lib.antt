pub mod Choices
pub mod Comparing
pub mod Guards
pub mod Laws
pub mod Outcomes
-- Definitions of the libraries below that clauses here speak of, passed on.
pub use Rattle.value_walks.specs.Equality
