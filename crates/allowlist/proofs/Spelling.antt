-- Lists of types against lists of words.
use Rattle.std.proofs.Common.{◌≡◌, suc, Bool, true, false, ◌&&◌, List, [], ◌∷◌, length, refl, ap, ◌∙◌}
use Rattle.pl_types.specs.declared.ty.Ty.{Ty}
use Rattle.allowlist.specs.Lines.{TypeText}
use Rattle.allowlist.specs.Files.{spells, spells_all}

and_no : (b : Bool) → (b && false) ≡ false
and_no true = refl
and_no false = refl

pub other_lengths : (types : List Ty) (texts : List TypeText) → (length types ≡ length texts → ⊥) → spells_all types texts ≡ false
other_lengths [] [] h = absurd (h refl)
other_lengths [] (t ∷ ts) h = refl
other_lengths (ty ∷ types) [] h = refl
other_lengths (ty ∷ types) (t ∷ ts) h = ap (λ b. spells ty t.depth t.word && b) (other_lengths types ts (λ e. h (ap suc e))) ∙ and_no (spells ty t.depth t.word)
