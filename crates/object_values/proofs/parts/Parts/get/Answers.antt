use Rattle.std.proofs.Common.{is_some, ap, sym, ◌∙◌}
use Rattle.object_values.proofs.Joining.{value_before, value_behind, value_tail}
use Rattle.object_values.proofs.parts.Parts.get.Goals as goal

pub returns-in-Some : goal.returns-in-Some
returns-in-Some c =
    rw (← c.self.view_is) (c.in-Some.ensures ∙ sym (value_before c.self.inside.before c.self.inside.behind c.self.inside.tail c.args.key.now (ap is_some (sym c.in-Some.ensures))))

pub returns-in-Some-get : goal.returns-in-Some-get
returns-in-Some-get c = rw (← c.self.view_is)
    (c.in-Some-get.ensures ∙ sym (value_behind c.self.inside.before c.self.inside.behind c.self.inside.tail c.args.key.now c.self.invariant.distinct (ap is_some (sym c.in-None.ensures)) (ap is_some (sym c.in-Some-get.ensures))))

pub returns-in-None-get : goal.returns-in-None-get
returns-in-None-get c = rw (← c.self.view_is)
    (c.get-in-None-get.ensures ∙ sym (value_tail c.self.inside.before c.self.inside.behind c.self.inside.tail c.args.key.now c.self.invariant.distinct (ap is_some (sym c.in-None.ensures)) (ap is_some (sym c.in-None-get.ensures))))
