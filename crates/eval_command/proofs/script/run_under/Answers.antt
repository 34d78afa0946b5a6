-- The one program of the text has run.
use Rattle.eval_command.proofs.Runs.{text_comes, text_codes}
use Rattle.eval_command.proofs.script.run_under.Goals as goal

pub returns-in_ok-run_listed-in-Ok-clause-exact : goal.returns-in_ok-run_listed-in-Ok-clause-exact
returns-in_ok-run_listed-in-Ok-clause-exact c = text_comes c.args.text.now c.in-Ok.script c.in_ok-run_listed-in-Ok.field-0 c.in-Ok.ensures.exact c.in_ok-run_listed-in-Ok.ensures

pub returns-in_ok-run_listed-in-Ok-clause-codes : goal.returns-in_ok-run_listed-in-Ok-clause-codes
returns-in_ok-run_listed-in-Ok-clause-codes c =
    text_codes c.script_laws.ensures.answered_once c.code_laws.ensures.listed c.code_laws.ensures.prelude c.args.text.now c.in-Ok.script c.in_ok-run_listed-in-Ok.field-0 c.in-Ok.ensures.exact
    c.in-Ok.ensures.sound c.in_ok-run_listed-in-Ok.ensures
