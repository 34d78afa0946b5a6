pub mod Laws
pub mod Lines
pub mod Scripts
pub mod Shards
pub mod Standing
pub mod States
-- Definitions of the libraries below that clauses here speak of, passed on.
pub use Rattle.json_bridge.specs.Starts
pub use Rattle.task_core.specs.Order
pub use Rattle.task_core.specs.Turns
