pub mod Held
pub mod Keys
pub mod Pairs
pub mod Parts
pub mod Seeds
pub mod Values
-- Definitions of the libraries below that clauses here speak of, passed on.
pub use Rattle.pl_units.specs.Utf16
