use Rattle.std.proofs.Common.{is_some, ap, ◌∙◌}
use Rattle.object_values.proofs.Joining.{value_tail}
use Rattle.object_values.proofs.parts.Parts.place_of.Goals as goal

pub returns-in-None-place_of-2-clause-none : goal.returns-in-None-place_of-2-clause-none
returns-in-None-place_of-2-clause-none c = rw (← c.self.view_is)
    (value_tail c.self.inside.before c.self.inside.behind c.self.inside.tail c.args.key.now c.self.invariant.distinct (ap is_some c.in-None.ensures.none) (ap is_some c.in-None-place_of.ensures.none) ∙ c.in-None-place_of-2.ensures.none)
