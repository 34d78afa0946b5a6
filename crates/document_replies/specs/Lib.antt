pub mod Replies
pub mod Jobs
pub mod Searches
pub mod Changes
pub mod ChangeLaws
pub mod LinesSeen
-- Definitions of the libraries below that clauses here speak of, passed on.
pub use Rattle.job_replies.specs.Refusals
pub use Rattle.job_replies.specs.declared as job_replies_declared
pub use Rattle.json_bridge.specs.Starts
pub use Rattle.json_replies.specs.Showing
pub use Rattle.json_replies.specs.declared as json_replies_declared
pub use Rattle.line_run.specs.Passing
pub use Rattle.line_run.specs.Replies as LineRunReplies
pub use Rattle.line_run.specs.declared as line_run_declared
pub use Rattle.write_ctx.specs.declared as write_ctx_declared
