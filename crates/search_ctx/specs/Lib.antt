pub mod DocValues
pub mod Errors
pub mod Fields
pub mod Laws
pub mod Lines
pub mod Order
pub mod Placing
pub mod Typed
-- Definitions of the libraries below that clauses here speak of, passed on.
pub use Rattle.object_values.specs.Seeds
