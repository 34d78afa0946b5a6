pub mod Leaving
pub mod Counted
pub mod Values
pub mod Effects
pub mod Containers
-- Lemmas of the libraries below, passed on.
pub use Rattle.def_access.proofs.Built
pub use Rattle.def_access.proofs.Doing
pub use Rattle.def_access.proofs.MemberCallsLeaving
pub use Rattle.def_access.proofs.Owners
pub use Rattle.def_access.proofs.Types
