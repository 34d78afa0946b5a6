pub mod Members
pub mod Answers
pub mod Laws
pub mod Types
-- Definitions of the libraries below that clauses here speak of, passed on.
pub use Rattle.api_iter.specs.Iterating
pub use Rattle.api_iter.specs.Members as ApiIterMembers
pub use Rattle.api_iter.specs.declared as api_iter_declared
pub use Rattle.api_list.specs.Indexing
pub use Rattle.api_list.specs.Lists
pub use Rattle.member_arguments.specs.Arguments
