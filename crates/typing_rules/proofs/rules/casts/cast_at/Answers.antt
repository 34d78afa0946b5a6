-- The cast of the table is that of the part's own type.
use Rattle.std.proofs.Common.{Option, subst, ap, ◌∙◌}
use Rattle.pl_types.specs.declared.conversion.Cast.{Cast}
use Rattle.pl_types.specs.declared.ty.Ty.{Ty}
use Rattle.pl_types.specs.Casts.{cast_of}
use Rattle.pl_types.specs.Classes.{class_is_below}
use Rattle.typed_tree.specs.declared.typed.Typed.{Typed}
use Rattle.typing_rules.specs.Outcomes.{Keeps}
use Rattle.typing_rules.specs.Rules.Casts.{cast_by}
use Rattle.typing_rules.proofs.rules.casts.cast_at.Goals as goal

pub returns : goal.returns
returns c =
    subst (λ (o : Option Cast). Keeps (cast_by o c.args.x.at c.args.at c.args.to.now c.args.x.typed) c.cast_by.result)
    (c.cast-by.ensures ∙ ap (λ (of : Ty). cast_of class_is_below of c.args.to.now c.args.written) c.of.ensures)
    (subst (λ (y : Typed). Keeps (cast_by c.cast-by.result c.args.x.at c.args.at c.args.to.now y) c.cast_by.result) c.into_typed.ensures c.cast_by.ensures)
