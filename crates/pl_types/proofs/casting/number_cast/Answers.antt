use Rattle.std.proofs.Common.{Bool, sym, ap, ◌∙◌}
use Rattle.pl_types.specs.declared.conversion.Cast.TheVariants.{Number}
use Rattle.pl_types.specs.Casts.{only_if}
use Rattle.pl_types.proofs.Shapes.{number_same, number_other}
use Rattle.pl_types.proofs.casting.number_cast.Goals as goal

pub returns-then-same : goal.returns-then-same
returns-then-same c below = number_same below c.args.from c.args.to c.args.explicit (sym c.same.ensures ∙ c.if-same.true)

pub returns : goal.returns
returns c below = number_other below c.args.from c.args.to c.args.explicit _ (sym c.same.ensures ∙ c.if-same.false) (c.only.ensures ∙ ap (λ (t : Bool). only_if t (Number c.args.from c.args.to)) c.reaches_to.ensures)
