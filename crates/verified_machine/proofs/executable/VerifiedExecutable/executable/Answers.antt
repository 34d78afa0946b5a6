use Rattle.std.proofs.Common.{subst}
use Rattle.verifier_soundness.specs.Rows.{HaveRows}
use Rattle.machine.specs.Seen.{Executable}
use Rattle.verified_machine.specs.Tasks.{IsReady}
use Rattle.verified_machine.proofs.executable.VerifiedExecutable.executable.Goals as goal

pub returns-clause-is : goal.returns-clause-is
returns-clause-is c = c.self.view_is

pub returns-clause-ready : goal.returns-clause-ready
returns-clause-ready c = subst IsReady c.self.view_is c.self.invariant.0

pub returns-clause-rows : goal.returns-clause-rows
returns-clause-rows c = subst (λ (e : Executable). HaveRows e.prelude.allow e.prelude.code.functions) c.self.view_is c.self.invariant.1
