use Rattle.std.proofs.Common.{Bool, sym, ap, ◌∙◌, ◌&&◌}
use Rattle.pl_types.specs.declared.conversion.Cast.TheVariants.{Explicit}
use Rattle.pl_types.specs.Casts.{only_if}
use Rattle.pl_types.proofs.Shapes.{class_same, class_up, class_down}
use Rattle.pl_types.proofs.casting.class_cast.Goals as goal

pub returns-then-from-to : goal.returns-then-from-to
returns-then-from-to g c = class_same _ c.args.from c.args.to c.args.explicit c.if-from-to.true

pub returns-then-is_sub : goal.returns-then-is_sub
returns-then-is_sub g c = class_up (g.L.Lineage.is_below c.args.lineage.now) c.args.from c.args.to c.args.explicit (sym c.is_sub.ensures ∙ c.if-is_sub.true)

pub returns : goal.returns
returns g c = class_down (g.L.Lineage.is_below c.args.lineage.now) c.args.from c.args.to c.args.explicit _ c.if-from-to.false (sym c.is_sub.ensures ∙ c.if-is_sub.false) (c.written_only.ensures ∙ ap (λ (t : Bool). only_if (c.args.explicit && t) Explicit) c.is_sub-2.ensures)
