-- Codes of scripts and of the prelude may be listed, and are counted in one way.
use Rattle.script_engine.proofs.Counted.{codes_count_once, listed_codes_count}
use Rattle.script_engine.proofs.Listed.{codes_are_listed, prelude_is_listed}
use Rattle.script_engine.proofs.laws.code_laws.Goals as goal

pub returns-clause-listed : goal.returns-clause-listed
returns-clause-listed c = codes_are_listed c.programs_end.ensures.ends c.programs_run.ensures.rows c.verified_run_laws.ensures.starts c.verified_run_laws.ensures.never_stuck

pub returns-clause-prelude : goal.returns-clause-prelude
returns-clause-prelude c = prelude_is_listed

pub returns-clause-once : goal.returns-clause-once
returns-clause-once c = codes_count_once

pub returns-clause-counted : goal.returns-clause-counted
returns-clause-counted c = listed_codes_count
