use Rattle.std.proofs.Common.{sym, ◌∙◌, ap, subst}
use Rattle.def_access.specs.Access.{Access}
use Rattle.def_access.specs.Coming.{ComesOn, called_on}
use Rattle.def_access.proofs.Coming.{method_is}
use Rattle.def_access.proofs.calling.method_called.Goals as goal

pub returns-in-Some : goal.returns-in-Some
returns-in-Some c =
    subst (λ (x : Access). ComesOn x c.args.heap.now c.call_found.new.heap c.call_found.new.values c.call_found.result)
    (ap (called_on c.args.allow.now c.args.heap.now c.args.name.now c.args.values.now) c.in-Some.ensures.exact ∙ method_is c.args.allow.now c.args.heap.now c.args.name.now c.args.values.now)
    c.call_found.ensures
