use Rattle.serde_json.specs.View.{view}
use Rattle.job_file.proofs.Parts.{object_answers}
use Rattle.job_file.proofs.job.Job.read.Goals as goal

pub returns-in-Ok-clause-text : goal.returns-in-Ok-clause-text
returns-in-Ok-clause-text c = λ utf8. object_answers c.job_of.result c.args.command _ (view c.in-Ok.file) (c.in-Ok.ensures.text utf8) c.job_of.ensures
