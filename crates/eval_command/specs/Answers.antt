-- An answer of the code as what is told.
use Rattle.std.specs.Prelude.{string_bytes}
use Rattle.command_parts.specs.Reports.{texts_of}
use Rattle.command_parts.specs.Told.{Told}
use Rattle.eval_command.specs.declared.reply.Answer.{Answer}

abbrev pub told_by : Answer → Told
told_by answer = record {
  status = answer.report.status;
  bytes = string_bytes answer.line;
  listings = texts_of answer.report;
  steps = answer.report.steps;
}
