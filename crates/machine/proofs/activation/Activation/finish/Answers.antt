use Rattle.std.proofs.Common.{Some, ap, sym, ◌∙◌, rules}
use Rattle.machine.specs.Seen.{ended}
use Rattle.machine.proofs.Ended.{left_by}
use Rattle.machine.proofs.activation.Activation.finish.Goals as goal

pub returns-in-Some-clause-leaves : goal.returns-in-Some-clause-leaves
returns-in-Some-clause-leaves c = (
  c.self.inside.run.world.ticks,
  ap (λ a. a.now) (sym c.self.view_is) ∙ left_by c.self.inside.last c.self.inside.run c.in-Some.end c.in-Some.ensures
      ∙ ap (λ reached. Some (ended c.in-Some.end (record { store = c.self.inside.run.world.heap; ticks = c.self.inside.run.world.ticks; reached = reached }))) (sym c.into_elements.ensures),
  search rules,
  search rules,
)
