pub mod CastLemmas
pub mod Coming
pub mod Confined
pub mod Keeping
pub mod Listing
-- Lemmas of the libraries below, passed on.
pub use Rattle.container_ops.proofs.Keeping as ContainerOpsKeeping
pub use Rattle.container_ops.proofs.Leaving
pub use Rattle.container_ops.proofs.There
pub use Rattle.member_calls.proofs.Built
pub use Rattle.member_calls.proofs.Doing
pub use Rattle.member_calls.proofs.Keeping as MemberCallsKeeping
pub use Rattle.member_calls.proofs.Leaving as MemberCallsLeaving
pub use Rattle.member_calls.proofs.Owners
pub use Rattle.member_calls.proofs.Types
