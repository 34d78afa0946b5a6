use Rattle.job_commands.proofs.Starting.{lines_run, lines_start}
use Rattle.job_commands.proofs.starts.lines_start_well.Goals as goal

pub returns-clause-starts : goal.returns-clause-starts
returns-clause-starts c = lines_start c.lines_fit.ensures c.changes_fit.ensures c.lines_are_typed.ensures c.changes_are_typed.ensures c.params_are_objects.ensures

pub returns-clause-runs : goal.returns-clause-runs
returns-clause-runs c = lines_run c.lines_fit.ensures c.changes_fit.ensures c.lines_are_typed.ensures c.changes_are_typed.ensures c.params_are_objects.ensures c.programs_keep_their_rules.ensures
