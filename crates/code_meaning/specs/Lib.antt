pub mod Words
pub mod Members
pub mod Machine
pub mod Sizes
pub mod Laws
-- Definitions of the libraries below that clauses here speak of, passed on.
pub use Rattle.def_access.specs.Access
pub use Rattle.def_access.specs.Elements
pub use Rattle.def_access.specs.Laws as DefAccessLaws
pub use Rattle.def_access.specs.Loops
pub use Rattle.def_access.specs.Making
pub use Rattle.def_access.specs.Members as MemberCallsMembers
pub use Rattle.def_access.specs.Types
