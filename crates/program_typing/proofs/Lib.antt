pub mod Values
pub mod Effects
pub mod Defs
pub mod Operations
pub mod Members
pub mod Containers
pub mod Accesses
pub mod Scopes
pub mod Never
pub mod Enough
-- Lemmas of the libraries below, passed on.
pub use Rattle.source_meaning.proofs.Due
pub use Rattle.source_meaning.proofs.Greater
