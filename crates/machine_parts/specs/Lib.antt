pub mod Code
pub mod Frames
pub mod Rooms
pub mod Worlds
pub mod Handlers
pub mod Links
pub mod Indexes
pub mod Copies
-- Definitions of the libraries below that clauses here speak of, passed on.
pub use Rattle.instruction_types.specs.Members
