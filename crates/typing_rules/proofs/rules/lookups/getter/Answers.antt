use Rattle.std.proofs.Common.{sym, ◌∙◌}
use Rattle.typing_rules.proofs.Members.{by_get, by_is}
use Rattle.typing_rules.proofs.rules.lookups.getter.Goals as goal

pub returns-in-Some-clause-found : goal.returns-in-Some-clause-found
returns-in-Some-clause-found c = sym (by_get c.args.allow.now c.args.class c.args.name.now c.in-Some.number (sym c.accessor.ensures.found ∙ c.in-Some.is))

pub returns-in-None-clause-found : goal.returns-in-None-clause-found
returns-in-None-clause-found c =
    c.accessor-in-None.ensures.found ∙ sym (by_is c.args.allow.now c.args.class c.args.name.now (sym c.accessor.ensures.found ∙ c.in-None.is))
