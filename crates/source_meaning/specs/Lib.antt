pub mod Tree
pub mod Falls
pub mod Operating
pub mod Members
pub mod Meaning
pub mod Programs
pub mod Laws
-- Definitions of the libraries below that clauses here speak of, passed on.
pub use Rattle.def_access.specs.Access
pub use Rattle.def_access.specs.ContainerCallsTypes
pub use Rattle.def_access.specs.Elements
pub use Rattle.def_access.specs.Indexing
pub use Rattle.def_access.specs.Iterators
pub use Rattle.def_access.specs.Lists
pub use Rattle.def_access.specs.Loops
pub use Rattle.def_access.specs.Making
pub use Rattle.def_access.specs.MemberCallsTypes
pub use Rattle.def_access.specs.Members as MemberCallsMembers
pub use Rattle.def_access.specs.Types
pub use Rattle.def_access.specs.container_parts_declared
pub use Rattle.number_ops.specs.Operators
pub use Rattle.object_values.specs.declared as object_values_declared
pub use Rattle.run_state.specs.Calls
pub use Rattle.run_state.specs.World
