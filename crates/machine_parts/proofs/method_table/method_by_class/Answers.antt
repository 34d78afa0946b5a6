use Rattle.std.proofs.Common.{sym, ◌∙◌, ap, subst}
use Rattle.def_access.specs.Access.{Access}
use Rattle.def_access.specs.Coming.{CalleeListed, ComesOn, called_on}
use Rattle.def_access.proofs.Coming.{method_is}
use Rattle.machine_parts.proofs.Methods.{found_listed, told_first}
use Rattle.machine_parts.proofs.method_table.method_by_class.Goals as goal

pub call_found-requires : goal.call_found-requires
call_found-requires c =
    subst (CalleeListed c.args.allow.now) (sym (told_first c.args.allow.now c.args.heap.now.objects c.args.methods.now c.args.name.now c.args.count c.args.values.now c.in-Some.found c.requires c.in-Some.ensures))
    (found_listed c.args.allow.now c.args.heap.now.objects c.args.name.now c.args.values.now)

pub returns-in-Some : goal.returns-in-Some
returns-in-Some c =
    subst (λ (x : Access). ComesOn x c.args.heap.now c.call_found.new.heap c.call_found.new.values c.call_found.result)
    (ap (called_on c.args.allow.now c.args.heap.now c.args.name.now c.args.values.now) (told_first c.args.allow.now c.args.heap.now.objects c.args.methods.now c.args.name.now c.args.count c.args.values.now c.in-Some.found c.requires c.in-Some.ensures) ∙ method_is c.args.allow.now c.args.heap.now c.args.name.now c.args.values.now)
    c.call_found.ensures
