use Rattle.std.proofs.Common.{sym, ap, ◌∙◌}
use Rattle.def_resolve.specs.Functions.{is_constructor}
use Rattle.def_resolve.proofs.Members.{constructor_listed}
use Rattle.def_resolve.proofs.function.constructor_of.Goals as goal

pub returns-then-is_constructor-clause-confined : goal.returns-then-is_constructor-clause-confined
returns-then-is_constructor-clause-confined c = (
  constructor_listed c.args.allow.now c.args.class c.args.arity c.in_ok-number.number (sym c.in_ok-number.ensures.found)
      (ap (λ m. is_constructor m.kind) (sym c.member_at-member.ensures) ∙ sym c.is_constructor.ensures ∙ c.if-is_constructor.true),
  ap (λ m. m.owner) (sym c.member_at-member.ensures) ∙ c.if-member-class.true,
)
