-- The line is that of the number that is kept.
use Rattle.std.proofs.Common.{string_bytes}
use Rattle.document_replies.specs.Jobs.{ended_of}
use Rattle.job_tests.proofs.Bytes.{line_shown, no_error}
use Rattle.job_tests.proofs.first_bytes.FirstBytesLineContext.reply.Goals as goal

pub returns-clause-text : goal.returns-clause-text
returns-clause-text c = λ from kept.
    line_shown c.args._allow.now c.args._keys (ended_of c.args._outcome.now) from c.args.kept (string_bytes c.in_ok-text.text) kept c.in_ok-text.ensures

pub returns-clause-error : goal.returns-clause-error
returns-clause-error c = λ from kept. no_error c.args._allow.now c.args._keys (ended_of c.args._outcome.now) from c.args.kept kept
