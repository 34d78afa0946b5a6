-- The job has a first script, or none.
use Rattle.std.proofs.Common.{sym, ap, ◌∙◌, length}
use Rattle.job_loading.specs.Seen.{read_view}
use Rattle.job_commands.proofs.Compiled.{job_of_texts, none_not}
use Rattle.job_commands.proofs.preparing.job_scripts.Goals as goal

pub returns-in-Some-clause-told : goal.returns-in-Some-clause-told
returns-in-Some-clause-told c =
    job_of_texts (read_view c.args.found.now) c.args.found.now.job.scripts.items c.in-Some.first.now c.in-Some.rest.now c.scripts_from.result (sym c.as_slice.ensures.value ∙ c.in-Some.ensures.cases.0)
    c.scripts_from.ensures.told

pub returns-in-None-clause-told : goal.returns-in-None-clause-told
returns-in-None-clause-told c =
    none_not (read_view c.args.found.now) c.args.found.now.job.scripts.items c.key_refused.result (ap (λ xs. length xs) (sym c.as_slice.ensures.value) ∙ c.in-None.ensures.cases) c.key_refused.ensures.told
