use Rattle.std.proofs.Common.{ap, sym, ◌∙◌, Some}
use Rattle.pl_types.specs.declared.ty.Ty.{Ty}
use Rattle.pl_types.specs.declared.ty.Ty.TheVariants.{Array}
use Rattle.pl_types.specs.Texts.{array_of}
use Rattle.pl_types.proofs.TypeTexts.{plain_text, of_element}
use Rattle.pl_types.proofs.ty.Ty.+of_full_text.Goals as goal

pub returns-in-None : goal.returns-in-None
returns-in-None t c = c.plain_type.ensures ∙ sym (plain_text c.args.text.now c.in-None.ensures)

pub returns-in-None-2 : goal.returns-in-None-2
returns-in-None-2 t c =
    ap array_of (sym c.in-None-2.is) ∙ of_element c.args.text.now c.in-Some.element.now _ c.in-Some.ensures c.in_ok-of_full_text-in-Some.ensures

pub returns-in_ok-new-in-Some-2 : goal.returns-in_ok-new-in-Some-2
returns-in_ok-new-in-Some-2 t c =
    ap (λ (element : Ty). Some (Array element)) c.in_ok-new-in-Some-2.ensures
    ∙ ap array_of (sym c.in-Some-2.is) ∙ of_element c.args.text.now c.in-Some.element.now _ c.in-Some.ensures c.in_ok-of_full_text-in-Some.ensures
