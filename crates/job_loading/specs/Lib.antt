pub mod Loading
pub mod Asked
pub mod Seen
-- Definitions of the libraries below that clauses here speak of, passed on.
pub use Rattle.allowlist.specs.Allow
pub use Rattle.job_replies.specs.Listings
pub use Rattle.job_replies.specs.Refusals
pub use Rattle.job_replies.specs.declared as job_replies_declared
pub use Rattle.json_replies.specs.Replies
