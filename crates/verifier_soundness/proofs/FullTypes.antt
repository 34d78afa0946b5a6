-- Whether a text is that of a type in full, by its end.
use Rattle.std.proofs.Common.{◌≡◌, List, ◌++◌, ℕ, codes, Option, Some, None, refl, sym, ap, ◌∙◌}
use Rattle.std.specs.Prelude.{is_some}
use Rattle.pl_types.specs.declared.ty.Ty.{Ty}
use Rattle.pl_types.specs.Texts.{array_of, plain_type, type_of_full}
use Rattle.pl_types.proofs.TypeTexts.{array_text, plain_text}

array_is : (o : Option Ty) → is_some (array_of o) ≡ is_some o
array_is None = refl
array_is (Some of) = refl

-- with `[]` behind it a text is a type's where it is one
pub before_is : (text element : List ℕ) → text ≡ element ++ codes "[]" → is_some (type_of_full element) ≡ is_some (type_of_full text)
before_is text element e = sym (array_is (type_of_full element)) ∙ ap is_some (sym (array_text element)) ∙ ap (λ t. is_some (type_of_full t)) (sym e)

pub plain_is : (text : List ℕ) → ((element : List ℕ) → text ≡ element ++ codes "[]" → ⊥) → is_some (plain_type text) ≡ is_some (type_of_full text)
plain_is text h = ap is_some (sym (plain_text text h))
