use Rattle.std.proofs.Common.{sym, ap, ◌∙◌, subst}
use Rattle.def_resolve.specs.Accesses.{NameConfined, property_of}
use Rattle.def_resolve.proofs.Confined.{object_confined, other_name, property_confined}
use Rattle.def_resolve.proofs.access.name_access.Goals as goal

pub returns-in-Some-clause-confined : goal.returns-in-Some-clause-confined
returns-in-Some-clause-confined c =
    subst (NameConfined c.args.allow.now) (sym c.in_object.ensures) (object_confined c.args.purpose c.args.allow.now c.args.name.now c.in-Some.object.now)

pub returns-in_default-clause-exact : goal.returns-in_default-clause-exact
returns-in_default-clause-exact c =
    c.property_of.ensures ∙ ap (property_of c.args.purpose c.args.allow.now c.args.name.now) c.class_of.ensures.exact
    ∙ other_name c.args.purpose c.args.allow.now c.args.heap.now.objects c.args.receiver.now c.args.name.now c.in_default.not-Ref

pub returns-in_default-clause-confined : goal.returns-in_default-clause-confined
returns-in_default-clause-confined c =
    subst (NameConfined c.args.allow.now) (sym c.property_of.ensures) (property_confined c.args.purpose c.args.allow.now c.args.name.now c.class_of.result)
