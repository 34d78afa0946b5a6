use Rattle.std.proofs.Common.{sym, ◌∙◌, subst}
use Rattle.def_resolve.specs.Functions.{ReferenceConfined}
use Rattle.def_resolve.proofs.Members.{instance_confined, static_listed}
use Rattle.def_resolve.proofs.function.reference_of.Goals as goal

pub returns-in-Some-clause-confined : goal.returns-in-Some-clause-confined
returns-in-Some-clause-confined c =
    static_listed c.args.allow.now c.args.class c.args.name.now c.args.arity c.found-found.result c.in-Some.number c.found-found.ensures.found (sym c.static_in.ensures ∙ c.in-Some.is)

pub returns-in-None-clause-confined : goal.returns-in-None-clause-confined
returns-in-None-clause-confined c =
    subst (ReferenceConfined c.args.allow.now) (sym c.instance_behind.ensures) (instance_confined c.args.allow.now c.args.class c.args.name.now c.args.arity)
