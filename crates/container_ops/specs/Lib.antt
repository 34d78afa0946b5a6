pub mod Types
pub mod Making
pub mod Sizes
pub mod Elements
pub mod Loops
pub mod Laws
-- Definitions of the libraries below that clauses here speak of, passed on.
pub use Rattle.container_calls.specs.Indexing
pub use Rattle.container_calls.specs.Laws as ContainerCallsLaws
pub use Rattle.container_calls.specs.Lists
pub use Rattle.container_calls.specs.Types as ContainerCallsTypes
pub use Rattle.container_parts.specs.Iterators
pub use Rattle.container_parts.specs.declared as container_parts_declared
