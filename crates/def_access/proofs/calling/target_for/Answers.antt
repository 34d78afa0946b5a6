use Rattle.std.proofs.Common.{sym, subst}
use Rattle.def_access.specs.Coming.{CalleeListed}
use Rattle.def_access.proofs.Confined.{target_listed}
use Rattle.def_access.proofs.calling.target_for.Goals as goal

pub returns-in-Some-clause-listed : goal.returns-in-Some-clause-listed
returns-in-Some-clause-listed c = subst (CalleeListed c.args.allow.now) (sym c.resolve.ensures.exact) (target_listed c.args.allow.now c.in-Some.class c.args.name.now c.args.arity)
