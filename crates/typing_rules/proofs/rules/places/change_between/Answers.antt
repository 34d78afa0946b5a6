-- Each cast is that of the table.
use Rattle.std.proofs.Common.{Option, ap, ◌∙◌, true}
use Rattle.pl_types.specs.declared.conversion.Cast.{Cast}
use Rattle.pl_types.specs.Casts.{cast_of}
use Rattle.pl_types.specs.Classes.{class_is_below}
use Rattle.typing_rules.specs.Rules.Places.{change_by}
use Rattle.typing_rules.proofs.rules.places.change_between.Goals as goal

pub returns : goal.returns
returns c =
    c.change_by.ensures
    ∙ ap (λ (before : Option Cast). change_by before c.args.operator c.cast-after.result) c.cast-before.ensures
    ∙ ap (λ (after : Option Cast). change_by (cast_of class_is_below c.args.location.now.gives c.args.left.now true) c.args.operator after) c.cast-after.ensures
