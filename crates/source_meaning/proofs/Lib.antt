pub mod Due
pub mod Greater
-- Lemmas of the libraries below, passed on.
pub use Rattle.def_access.proofs.Doing
pub use Rattle.def_access.proofs.Types
