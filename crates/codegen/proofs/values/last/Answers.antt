use Rattle.std.proofs.Common.{sym}
use Rattle.codegen.specs.Worklist.{member_takes}
use Rattle.codegen.proofs.Called.{last_at, some_at}
use Rattle.codegen.proofs.Parts.{last_param, some_param}
use Rattle.codegen.proofs.values.last.Goals as goal

pub returns-in-None : goal.returns-in-None
returns-in-None c = rw c.in-As.is (last_param c.in-As.params.now c.args.at (sym c.in-None.ensures.value))

pub returns-in-Some : goal.returns-in-Some
returns-in-Some c = rw c.in-As.is (λ h. some_param c.in-As.params.now c.args.at _ (sym c.in-Some.ensures.value) h)

pub returns-in-None-parameter : goal.returns-in-None-parameter
returns-in-None-parameter c = rw c.in-Member.is (last_at (member_takes c.in-Member.kind c.in-Member.params.now) c.args.at (sym c.in-None-parameter.ensures))

pub returns-in-Some-parameter : goal.returns-in-Some-parameter
returns-in-Some-parameter c = rw c.in-Member.is (λ h. some_at (member_takes c.in-Member.kind c.in-Member.params.now) c.args.at _ (sym c.in-Some-parameter.ensures) h)
