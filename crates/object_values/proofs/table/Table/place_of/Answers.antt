use Rattle.std.proofs.Common.{sym, ◌∙◌, subst, List}
use Rattle.object_values.specs.declared.value.Value.{Value}
use Rattle.object_values.specs.Pairs.{StandsAt}
use Rattle.object_values.proofs.Finding.{finds, passes}
use Rattle.object_values.proofs.table.Table.place_of.Goals as goal

pub returns-in-Some-clause-found : goal.returns-in-Some-clause-found
returns-in-Some-clause-found c = subst (λ (pairs : List (Value × Value)). StandsAt pairs c.args.key.now c.in-Some.at) c.self.view_is
    (record {
      pair = (c.in-Some.field-0-1.now, c.in-Some.field-0-2.now);
      here = c.in-Some.ensures.entry;
      same = passes c.self.inside.map.entries c.args.key.now c.in-Some.field-0-1.now (sym c.in-Some.ensures.key);
    })

pub returns-in-None-clause-none : goal.returns-in-None-clause-none
returns-in-None-clause-none c = rw (← c.self.view_is) (sym (finds c.self.inside.map.entries c.args.key.now) ∙ sym c.in-None.ensures.value)
