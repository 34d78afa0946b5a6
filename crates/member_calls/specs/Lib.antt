pub mod Members
pub mod Answers
pub mod Laws
pub mod Types
-- Definitions of the libraries below that clauses here speak of, passed on.
pub use Rattle.container_calls.specs.Laws as ContainerCallsLaws
pub use Rattle.container_calls.specs.Types as ContainerCallsTypes
