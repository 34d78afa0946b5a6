pub mod Values
pub mod Operations
pub mod Members
pub mod Meanings
-- Lemmas of the libraries below, passed on.
pub use Rattle.program_typing.proofs.Containers
pub use Rattle.source_fit.proofs.Effects
pub use Rattle.source_fit.proofs.Meanings as SourceFitMeanings
pub use Rattle.source_fit.proofs.Values as SourceFitValues
pub use Rattle.value_typing.proofs.Built
pub use Rattle.value_typing.proofs.Owners
pub use Rattle.value_typing.proofs.Values as RunFitValues
