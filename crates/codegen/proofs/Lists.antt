-- Lists of instructions as lines.
use Rattle.std.proofs.Common.{◌≡◌, List, [], ◌∷◌, ◌++◌, refl, sym, ap, ◌∙◌, append_assoc}
use Rattle.std.specs.Prelude.{map}
use Rattle.pl_code.specs.declared.code.Instruction.{Instruction}
use Rattle.codegen.specs.declared.labels.Line.{Line}
use Rattle.codegen.specs.declared.labels.Line.TheVariants.{Fixed}

pub map_parts : (a b : List Instruction) → map Fixed (a ++ b) ≡ map Fixed a ++ map Fixed b
map_parts [] b = refl
map_parts (i ∷ a) b = ap (λ x. Fixed i ∷ x) (map_parts a b)

pub one_and_more : (old : List Line) (i : Instruction) (is : List Instruction) → (old ++ Fixed i ∷ []) ++ map Fixed is ≡ old ++ map Fixed (i ∷ is)
one_and_more old i is = append_assoc old (Fixed i ∷ []) (map Fixed is)

pub more_and_one : (old : List Line) (is : List Instruction) (i : Instruction) → (old ++ map Fixed is) ++ Fixed i ∷ [] ≡ old ++ map Fixed (is ++ i ∷ [])
more_and_one old is i = append_assoc old (map Fixed is) (Fixed i ∷ []) ∙ ap (λ x. old ++ x) (sym (map_parts is (i ∷ [])))
