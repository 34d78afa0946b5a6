pub mod Moments
pub mod CodeRules
pub mod Laws
-- Definitions of the libraries below that clauses here speak of, passed on.
pub use Rattle.run_fit.specs.Worlds
