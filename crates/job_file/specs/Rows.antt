-- The rows of the code beside those of the table.
use Rattle.std.specs.Prelude.{Bool, true, false, List}
use Rattle.job_file.specs.declared.context.JobContext.{JobContext}
use Rattle.job_file.specs.declared.keys.Contexts.{Contexts}
use Rattle.job_file.specs.declared.keys.Contexts.TheVariants as among
use Rattle.job_file.specs.declared.keys.Presence.{Presence}
use Rattle.job_file.specs.declared.keys.Presence.TheVariants as p
use Rattle.job_file.specs.Keys.{every, plain, with_lines, with_script, with_params, with_mapping, with_replies, with_turns, metric, updates, pipe, serve, function_score}

abbrev pub contexts_of : Contexts → List JobContext
contexts_of among.All = every
contexts_of among.Plain = plain
contexts_of among.WithLines = with_lines
contexts_of among.WithScript = with_script
contexts_of among.WithParams = with_params
contexts_of among.WithMapping = with_mapping
contexts_of among.WithReplies = with_replies
contexts_of among.WithTurns = with_turns
contexts_of among.Metric = metric
contexts_of among.Updates = updates
contexts_of among.Pipe = pipe
contexts_of among.Serve = serve
contexts_of among.FunctionScore = function_score

abbrev pub presence_of : Bool → Presence
presence_of true = p.Required
presence_of false = p.Optional
