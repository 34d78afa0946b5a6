use Rattle.std.proofs.Common.{◌∙◌}
use Rattle.object_values.proofs.Joining.{both_distinct, turned_distinct, gone_on, counted_on}
use Rattle.object_values.proofs.parts.Parts.move_gap.Goals as goal

pub carry-requires : goal.carry-requires
carry-requires c = both_distinct c.self.inside.before c.self.inside.behind c.self.inside.tail c.self.invariant.distinct

pub carry-requires-then-at-before-2 : goal.carry-requires-then-at-before-2
carry-requires-then-at-before-2 c = turned_distinct c.self.inside.before c.self.inside.behind c.self.inside.tail c.self.invariant.distinct

pub invariant_of-self-then-at-before-2 : goal.invariant_of-self-then-at-before-2
invariant_of-self-then-at-before-2 c =
    counted_on c.self.inside.before c.self.inside.behind c.self.inside.tail c.carry-then-at-before-2.new.to c.carry-then-at-before-2.new.self c.carry-then-at-before-2.ensures c.self.invariant

pub returns-then-at-before-2 : goal.returns-then-at-before-2
returns-then-at-before-2 c =
    gone_on c.self.inside.before c.self.inside.behind c.self.inside.tail c.carry-then-at-before-2.new.to c.carry-then-at-before-2.new.self c.carry-then-at-before-2.ensures ∙ c.self.view_is
