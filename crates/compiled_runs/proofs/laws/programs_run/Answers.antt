use Rattle.compiled_runs.proofs.Programs as programs
use Rattle.compiled_runs.proofs.laws.programs_run.Goals as goal

pub returns : goal.returns
returns c = record { rows = programs.code_has_rows c.names_of_members.ensures.names; ends = programs.programs_run c.names_of_members.ensures.names c.code_is_well_shaped.ensures.shaped }
