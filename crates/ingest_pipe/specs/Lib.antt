pub mod Answers
pub mod Forms
pub mod Keys
pub mod Paths
pub mod Reading
pub mod Running
pub mod Settings
-- Definitions of the library below that clauses here speak of, passed on.
pub use Rattle.pipe_fields.specs.Documents
pub use Rattle.pipe_fields.specs.Edits
pub use Rattle.pipe_fields.specs.declared as pipe_fields_declared
