pub mod Iterating
pub mod Laws
pub mod Members
-- Definitions of the libraries below that clauses here speak of, passed on.
pub use Rattle.api_text.specs.Members as ApiTextMembers
pub use Rattle.api_text.specs.Outcomes
pub use Rattle.api_text.specs.declared as api_text_declared
pub use Rattle.container_parts.specs.Containers
pub use Rattle.container_parts.specs.Iterators
pub use Rattle.container_parts.specs.declared as container_parts_declared
