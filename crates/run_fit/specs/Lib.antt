pub mod Worlds
pub mod Laws
-- Definitions of the libraries below that clauses here speak of, passed on.
pub use Rattle.arithmetic.specs.Operators
pub use Rattle.def_access.specs.Access
pub use Rattle.def_access.specs.ContainerCallsLaws
pub use Rattle.def_access.specs.Elements
pub use Rattle.def_access.specs.Loops
pub use Rattle.def_access.specs.Making
pub use Rattle.def_access.specs.MemberCallsLaws
pub use Rattle.def_access.specs.MemberCallsTypes
pub use Rattle.def_access.specs.Members
pub use Rattle.def_access.specs.Types
pub use Rattle.run_state.specs.Calls
pub use Rattle.run_state.specs.World
