-- A job of a pipeline has its own.
use Rattle.serde_json.specs.View.{view}
use Rattle.pipe_command.proofs.Finding.{its_pipeline}
use Rattle.pipe_command.proofs.reading.pipeline_in.Goals as goal

pub returns-in-Pipe-clause-told : goal.returns-in-Pipe-clause-told
returns-in-Pipe-clause-told c =
    its_pipeline c.args.job.now.context (view c.args.job.now.particulars.pipeline) c.pipeline_of.result c.in-Pipe.is c.pipeline_of.ensures.told
