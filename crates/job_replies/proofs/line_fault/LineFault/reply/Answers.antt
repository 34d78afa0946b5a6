-- The texts of constants.
use Rattle.std.proofs.Common.{rules}
use Rattle.serde_json.proofs.OnLiterals.{serde_json_on_literals}
use Rattle.job_replies.proofs.line_fault.LineFault.reply.Goals as goal

pub returns-in-Long : goal.returns-in-Long
unfolding serde_json_on_literals
returns-in-Long c = search rules

pub returns-in-Syntax : goal.returns-in-Syntax
unfolding serde_json_on_literals
returns-in-Syntax c = search rules

pub returns-in-Number : goal.returns-in-Number
unfolding serde_json_on_literals
returns-in-Number c = search rules

pub returns-in-Field : goal.returns-in-Field
unfolding serde_json_on_literals
returns-in-Field c = search rules

pub returns-in-Limit : goal.returns-in-Limit
unfolding serde_json_on_literals
returns-in-Limit c = search rules
