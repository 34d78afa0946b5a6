pub mod FieldRoom
pub mod Bulking
pub mod Choosing
pub mod Copying
pub mod Keeping
pub mod KeepingBulk
pub mod KeepingWhole
pub mod Needing
pub mod Steps
-- Lemmas of the libraries below, passed on.
pub use Rattle.container_outcomes.proofs.Settling
pub use Rattle.container_parts.proofs.Keeping as ContainerPartsKeeping
