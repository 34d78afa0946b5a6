pub mod Steps
pub mod Fast
pub mod Boxed
-- Definitions of the libraries below that clauses here speak of, passed on.
pub use Rattle.code_fit.specs.CodeRules
pub use Rattle.code_fit.specs.Moments
pub use Rattle.code_fit.specs.Worlds
