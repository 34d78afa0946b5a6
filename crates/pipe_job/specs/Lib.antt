pub mod Documents
pub mod Replies
pub mod Code
pub mod Lines
-- Definitions of the libraries below that clauses here speak of, passed on.
pub use Rattle.ingest_pipe.specs.Paths
pub use Rattle.ingest_pipe.specs.Reading
pub use Rattle.ingest_pipe.specs.Running
pub use Rattle.ingest_pipe.specs.declared as ingest_pipe_declared
pub use Rattle.ingest_pipe.specs.Documents as PipeDocuments
