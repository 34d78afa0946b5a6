use Rattle.std.proofs.Common.{sym, ◌∙◌}
use Rattle.def_resolve.proofs.Members.{is_member, is_method}
use Rattle.def_resolve.proofs.callee.resolve.Goals as goal

pub returns-in-Some-clause-confined : goal.returns-in-Some-clause-confined
returns-in-Some-clause-confined c = is_method c.args.class c.args.name.now c.args.arity c.in-Some.method (sym c.method_called.ensures ∙ c.in-Some.is)

pub returns-clause-confined : goal.returns-clause-confined
returns-clause-confined c = is_member c.args.allow.now c.args.class c.args.name.now c.args.arity c.in_ok-number.number (sym c.in_ok-number.ensures)
