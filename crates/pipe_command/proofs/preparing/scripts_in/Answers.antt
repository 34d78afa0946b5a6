-- The scripts are those of the pipeline.
use Rattle.std.proofs.Common.{List, IfErr, IfOk, Ok, subst}
use Rattle.job_loading.specs.Seen.{read_view}
use Rattle.job_commands.specs.Preparing.{RefusesScripts}
use Rattle.pipe_job.specs.ingest_pipe_declared.scripts.PipeScript.{PipeScript}
use Rattle.pipe_command.specs.Pipelines.{texts_of}
use Rattle.pipe_command.specs.Preparing.{CompilesPipe}
use Rattle.pipe_command.proofs.preparing.scripts_in.Goals as goal

pub returns-clause-compiled : goal.returns-clause-compiled
returns-clause-compiled c =
    subst (λ (scripts : List PipeScript). IfOk c.scripts_of.result (λ xs. CompilesPipe c.args.read.now scripts (Ok xs.items))) c.scripts.ensures c.scripts_of.ensures.compiled

pub returns-clause-refused : goal.returns-clause-refused
returns-clause-refused c =
    subst (λ (scripts : List PipeScript). IfErr c.scripts_of.result (λ stop. RefusesScripts (read_view c.args.read.now.found) (texts_of scripts) stop)) c.scripts.ensures c.scripts_of.ensures.refused
