-- The bytes are a text, and that of the text follows; or they are none.
use Rattle.eval_command.proofs.Runs.{bytes_come, bytes_codes, bytes_fail}
use Rattle.eval_command.proofs.script.run_script.Goals as goal

pub returns-in-Ok-clause-exact : goal.returns-in-Ok-clause-exact
returns-in-Ok-clause-exact c = bytes_come c.args.script.now c.in-Ok.text.now c.run_text.result c.in-Ok.ensures.exact c.run_text.ensures.exact

pub returns-in-Ok-clause-codes : goal.returns-in-Ok-clause-codes
returns-in-Ok-clause-codes c = bytes_codes c.args.script.now c.in-Ok.text.now c.run_text.result c.in-Ok.ensures.only c.run_text.ensures.codes

pub returns-in-Err-clause-exact : goal.returns-in-Err-clause-exact
returns-in-Err-clause-exact c = bytes_fail c.args.script.now c.in-Err.fail c.in-Err.ensures.exact
