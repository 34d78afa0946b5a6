use Rattle.std.proofs.Common.{sym, ◌∙◌, subst, Some, None}
use Rattle.def_access.specs.Access.{Access}
use Rattle.def_access.specs.Coming.{ActsAs, ComesOn}
use Rattle.def_access.proofs.Coming.{called_built, called_unbuilt}
use Rattle.def_access.proofs.calling.call_member.Goals as goal

pub returns-then-is_built : goal.returns-then-is_built
returns-then-is_built c =
    subst (λ (x : Access). ComesOn x c.args.heap.now c.call_built.new.heap c.call_built.new.values c.call_built.result)
    (sym (called_built c.args.allow.now c.args.heap.now c.args.name.now c.args.number c.args.values.now (sym c.is_built.ensures ∙ c.if-is_built.true))) c.call_built.ensures

pub returns-else-is_built : goal.returns-else-is_built
returns-else-is_built c =
    subst (λ (x : Access). ActsAs x c.args.heap.now c.not_found.new.heap c.not_found.result)
    (sym (called_unbuilt c.args.allow.now c.args.heap.now c.args.name.now c.args.number c.args.values.now (sym c.is_built.ensures ∙ c.if-is_built.false))) c.not_found.ensures
