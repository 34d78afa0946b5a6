use Rattle.std.proofs.Common.{sym, ◌∙◌}
use Rattle.object_values.proofs.Joining.{turned_distinct, gone_on, counted_on, taken_over, counted_over}
use Rattle.object_values.proofs.parts.Parts.take_tail.Goals as goal

pub carry-requires : goal.carry-requires
carry-requires c = turned_distinct c.self.inside.before c.self.inside.behind c.self.inside.tail c.self.invariant.distinct

pub invariant_of-self : goal.invariant_of-self
invariant_of-self c =
    counted_over c.self.inside.before c.self.inside.behind c.self.inside.tail c.carry.new.to c.carry.new.self c.carry.ensures c.swap.new.x c.swap.new.y
    (c.swap.ensures.x_after ∙ c.reverse.ensures) c.swap.ensures.y_after (sym c.len-2.ensures.value ∙ c.if-len-eq0.true) c.self.invariant

pub invariant_of-self-else-len-eq0 : goal.invariant_of-self-else-len-eq0
invariant_of-self-else-len-eq0 c = counted_on c.self.inside.before c.self.inside.behind c.self.inside.tail c.carry.new.to c.carry.new.self c.carry.ensures c.self.invariant

pub returns-then-len-eq0 : goal.returns-then-len-eq0
returns-then-len-eq0 c =
    taken_over c.self.inside.before c.self.inside.behind c.self.inside.tail c.carry.new.to c.carry.new.self c.carry.ensures c.swap.new.x c.swap.new.y
    (c.swap.ensures.x_after ∙ c.reverse.ensures) c.swap.ensures.y_after (sym c.len-2.ensures.value ∙ c.if-len-eq0.true) ∙ c.self.view_is

pub returns-else-len-eq0 : goal.returns-else-len-eq0
returns-else-len-eq0 c = gone_on c.self.inside.before c.self.inside.behind c.self.inside.tail c.carry.new.to c.carry.new.self c.carry.ensures ∙ c.self.view_is
