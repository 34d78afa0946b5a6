pub mod Arguments
pub mod Bulk
pub mod Indexing
pub mod Laws
pub mod Lists
pub mod Making
pub mod Members
pub mod Ordered
pub mod Searching
pub mod Taking
-- Definitions of the libraries below that clauses here speak of, passed on.
pub use Rattle.container_outcomes.specs.Guards
