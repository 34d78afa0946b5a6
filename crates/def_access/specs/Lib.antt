pub mod Access
pub mod Coming
pub mod Laws
-- Definitions of the libraries below that clauses here speak of, passed on.
pub use Rattle.container_ops.specs.ContainerCallsLaws
pub use Rattle.container_ops.specs.ContainerCallsTypes
pub use Rattle.container_ops.specs.Elements
pub use Rattle.container_ops.specs.Indexing
pub use Rattle.container_ops.specs.Iterators
pub use Rattle.container_ops.specs.Lists
pub use Rattle.container_ops.specs.Loops
pub use Rattle.container_ops.specs.Making
pub use Rattle.container_ops.specs.Types
pub use Rattle.container_ops.specs.container_parts_declared
pub use Rattle.def_resolve.specs.Accesses
pub use Rattle.member_calls.specs.Answers
pub use Rattle.member_calls.specs.Laws as MemberCallsLaws
pub use Rattle.member_calls.specs.Members
pub use Rattle.member_calls.specs.Types as MemberCallsTypes
pub use Rattle.object_heap.specs.Effects
