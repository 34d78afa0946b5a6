use Rattle.std.proofs.Common.{◌-◌, ◌+◌, ◌≤◌}
use Rattle.document_replies.specs.Jobs.{by_start}
use Rattle.document_replies.specs.Searches.{documents_of}
use Rattle.job_commands.specs.Preparing.{EndsAsItsProgram}
use Rattle.job_commands.specs.Answers.{IsAnswer}
use Rattle.job_commands.proofs.Tallying.{CountsOn}
use Rattle.job_commands.proofs.tally.tally_of.Given as goal

-- the answers so far are counted, each once
abbrev pub invariant-documents : goal.invariant-documents
invariant-documents l = record {
  counts : CountsOn (IsAnswer (documents_of l.fn.job.context) (by_start (EndsAsItsProgram l.fn.job.script))) l.fn.count (l.fn.count - l._made) l.number l.tally;
  few : l.tally.errors + l.tally.ok ≤ l._made;
}
