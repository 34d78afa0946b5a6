pub mod Arguments
pub mod Casts
pub mod Chars
pub mod Laws
pub mod Members
pub mod Names
pub mod Numbers
pub mod Operators
pub mod Order
pub mod Outcomes
pub mod Relations
-- Definitions of the libraries below that clauses here speak of, passed on.
pub use Rattle.arithmetic.specs.declared as arithmetic_declared
pub use Rattle.object_heap.specs.Effects
pub use Rattle.object_heap.specs.Fits
pub use Rattle.object_heap.specs.Store
pub use Rattle.value_walks.specs.Equality
pub use Rattle.value_walks.specs.Texts
pub use Rattle.value_walks.specs.declared as value_walks_declared
