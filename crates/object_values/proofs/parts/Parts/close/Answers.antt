use Rattle.std.proofs.Common.{◌∙◌}
use Rattle.object_values.proofs.Joining.{turned_distinct, gone_on, counted_on}
use Rattle.object_values.proofs.parts.Parts.close.Goals as goal

pub carry-requires : goal.carry-requires
carry-requires c = turned_distinct c.self.inside.before c.self.inside.behind c.self.inside.tail c.self.invariant.distinct

pub invariant_of-self : goal.invariant_of-self
invariant_of-self c = counted_on c.self.inside.before c.self.inside.behind c.self.inside.tail c.carry.new.to c.carry.new.self c.carry.ensures c.self.invariant

pub returns : goal.returns
returns c = gone_on c.self.inside.before c.self.inside.behind c.self.inside.tail c.carry.new.to c.carry.new.self c.carry.ensures ∙ c.self.view_is ∙ c.take_tail.ensures
