use Rattle.std.proofs.Common.{sym, ◌∙◌}
use Rattle.allowlist.specs.Accessors.{seen_name}
use Rattle.allowlist.proofs.Members.{own_past}
use Rattle.allowlist.proofs.Places.{own_none, own_found}
use Rattle.allowlist.proofs.allow.Allow.own.Goals as goal

pub returns-then-class-ge-CLASS_COUNT : goal.returns-then-class-ge-CLASS_COUNT
returns-then-class-ge-CLASS_COUNT c = sym (own_past c.args.self.now c.args.class (seen_name c.args.name.now) c.args.arity c.if-class-ge-CLASS_COUNT.true)

pub returns-in_err-number : goal.returns-in_err-number
returns-in_err-number c = c.from_residual.ensures ∙ sym (own_none c.args.self.now c.args.class (seen_name c.args.name.now) c.args.arity c.in_err-number.ensures)

pub returns : goal.returns
returns c = c.then_some.ensures ∙ sym (own_found c.args.self.now c.args.class (seen_name c.args.name.now) c.args.arity c.in_ok-number.number c.allows.result c.in_ok-number.ensures c.allows.ensures)
