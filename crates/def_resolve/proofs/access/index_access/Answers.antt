use Rattle.std.proofs.Common.{sym, subst}
use Rattle.def_resolve.specs.Accesses.{IndexConfined}
use Rattle.def_resolve.proofs.Confined.{index_confined}
use Rattle.def_resolve.proofs.access.index_access.Goals as goal

pub returns-in-Some-clause-confined : goal.returns-in-Some-clause-confined
returns-in-Some-clause-confined c = subst (IndexConfined c.args.allow.now) (sym c.at_object.ensures) (index_confined c.args.purpose c.args.allow.now c.in-Some.object.now)
