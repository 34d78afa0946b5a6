use Rattle.job_commands.proofs.Compiled.{ran_so}
use Rattle.job_commands.proofs.script.LimitedScriptDocumentScript.run.Goals as goal

pub returns-clause-ends : goal.returns-clause-ends
returns-clause-ends c = ran_so c.args.self.now c.args.heap c.args.args.items c.in_ok-ran.ran.outcome c.in_ok-ran.ensures.program c.in_ok-ran.ensures.counts
