use Rattle.std.proofs.Common.{ap, sym, ◌∙◌}
use Rattle.object_values.specs.Pairs.{value_in}
use Rattle.object_values.proofs.Parting.{stands, none_cut}
use Rattle.object_values.proofs.pairs.Pairs.cut.Goals as goal

pub returns-in-Some-remove-clause-before : goal.returns-in-Some-remove-clause-before
returns-in-Some-remove-clause-before c =
    let found = c.in-Some.ensures.found in
    let here = stands c.args.self.now c.in-Some.at c.args.key.now found.pair c.in-Some.ensures.distinct found.here found.same in
    ap value_in (c.in-Some-remove.ensures.pair ∙ found.here) ∙ sym here.value

pub returns-in-Some-remove-clause-rest : goal.returns-in-Some-remove-clause-rest
returns-in-Some-remove-clause-rest c =
    let found = c.in-Some.ensures.found in
    let here = stands c.args.self.now c.in-Some.at c.args.key.now found.pair c.in-Some.ensures.distinct found.here found.same in
    c.remove.ensures.rest ∙ sym here.rest

pub returns-clause-rest : goal.returns-clause-rest
returns-clause-rest c = sym (none_cut c.args.self.now c.args.key.now c.in-None.ensures.none)
