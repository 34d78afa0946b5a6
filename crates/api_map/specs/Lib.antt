pub mod Affording
pub mod Arguments
pub mod Bulk
pub mod Collections
pub mod Entries
pub mod Guards
pub mod Holding
pub mod Laws
pub mod Making
pub mod Maps
pub mod Members
pub mod Searching
pub mod Sources
pub mod Whole
-- Definitions of the libraries below that clauses here speak of, passed on.
pub use Rattle.container_outcomes.specs.Choices
pub use Rattle.container_outcomes.specs.Comparing
pub use Rattle.container_outcomes.specs.Outcomes
pub use Rattle.container_outcomes.specs.declared as container_outcomes_declared
pub use Rattle.container_parts.specs.Containers
pub use Rattle.container_parts.specs.Iterators
pub use Rattle.container_parts.specs.declared as container_parts_declared
pub use Rattle.container_values.specs.Elements
pub use Rattle.value_walks.specs.Equality
