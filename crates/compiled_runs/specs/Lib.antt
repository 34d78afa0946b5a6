pub mod Laws
-- Definitions of the libraries below that clauses here speak of, passed on.
pub use Rattle.verifier_soundness.specs.Bounds
pub use Rattle.verifier_soundness.specs.Laws as VerifiedRuns
