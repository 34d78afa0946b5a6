-- Words that are moved, one after the other, behind the values that they stand for.
use Rattle.std.proofs.Common.{◌≡◌, ◌∙◌, ℤ, Option, Some, None, List, [], ◌∷◌, ◌++◌, refl, ap, sym, append_assoc}
use Rattle.object_values.specs.declared.value.Value.{Value}
use Rattle.code_meaning.specs.declared.word.Word.{Word}
use Rattle.code_meaning.specs.declared.word.Word.TheVariants.{I}
use Rattle.code_meaning.specs.Members.{before, int_before, ints_in, reference_in, references_in}
use Rattle.machine.specs.Members.{behind, behind_ints}

value_moves : (values : List Value) (value : Value) (more : Option (List Value)) → behind (values ++ value ∷ []) more ≡ behind values (before (Some value) more)
value_moves values value None = refl
value_moves values value (Some more) = ap Some (append_assoc values (value ∷ []) more)

pub reference_moved : (values new : List Value) (value : Value) (word : Word) (items rest : List Word) (wanted : Option (List Value))
    → new ≡ values ++ value ∷ [] → reference_in word ≡ Some value → items ≡ word ∷ rest → behind values (references_in items) ≡ wanted
    → behind new (references_in rest) ≡ wanted
reference_moved values new value word items rest wanted put is top so_far =
    ap (λ (xs : List Value). behind xs (references_in rest)) put
    ∙ (value_moves values value (references_in rest)
    ∙ (ap (λ (found : Option Value). behind values (before found (references_in rest))) (sym is)
    ∙ (ap (λ (words : List Word). behind values (references_in words)) (sym top) ∙ so_far)))

int_moves : (numbers : List ℤ) (number : ℤ) (more : Option (List ℤ)) → behind_ints (numbers ++ number ∷ []) more ≡ behind_ints numbers (int_before (I number) more)
int_moves numbers number None = refl
int_moves numbers number (Some more) = ap Some (append_assoc numbers (number ∷ []) more)

pub int_moved : (numbers new : List ℤ) (number : ℤ) (word : Word) (items rest : List Word) (wanted : Option (List ℤ))
    → new ≡ numbers ++ number ∷ [] → word ≡ I number → items ≡ word ∷ rest → behind_ints numbers (ints_in items) ≡ wanted
    → behind_ints new (ints_in rest) ≡ wanted
int_moved numbers new number word items rest wanted put is top so_far =
    ap (λ (xs : List ℤ). behind_ints xs (ints_in rest)) put
    ∙ (int_moves numbers number (ints_in rest)
    ∙ (ap (λ (w : Word). behind_ints numbers (int_before w (ints_in rest))) (sym is)
    ∙ (ap (λ (words : List Word). behind_ints numbers (ints_in words)) (sym top) ∙ so_far)))
