pub mod Typing
pub mod Laws
-- Definitions of the libraries below that clauses here speak of, passed on.
pub use Rattle.container_calls.specs.Laws as ContainerCallsLaws
pub use Rattle.container_calls.specs.Members as ContainerCallsMembers
pub use Rattle.run_fit.specs.Access
pub use Rattle.run_fit.specs.Elements
pub use Rattle.run_fit.specs.Laws as RunFitLaws
pub use Rattle.run_fit.specs.Loops
pub use Rattle.run_fit.specs.Making
pub use Rattle.run_fit.specs.Members
pub use Rattle.run_fit.specs.Types
pub use Rattle.run_fit.specs.Worlds
