-- Pieces that are cut, one after the other.
use Rattle.std.proofs.Common.{◌≡◌, ℕ, zero, suc, ◌+◌, List, [], ◌∷◌, ◌++◌, length, refl, ap, sym, ◌∙◌, arith, length-append, append_assoc}
use Rattle.std.proofs.lemmas.List.{length-map}
use Rattle.std.specs.Prelude.{Some, None, Result, Ok, Err, IfOk, IfErr, map}
use Rattle.object_values.specs.declared.value.Value.{Value}
use Rattle.object_values.specs.declared.value.Value.TheVariants as v
use Rattle.api_text.specs.declared.writing.Stop.{Stop}
use Rattle.api_text.specs.declared.writing.Stop.TheVariants.{NoRoom, NoMemory}
use Rattle.api_text.specs.declared.writing.Texts.{Texts}
use Rattle.api_text.specs.Making.{cost_of}
use Rattle.api_text.specs.Pieces.{around, cut, cut_around}
use Rattle.api_text.specs.Writing.{MadeTexts, StopsOne, StopsTexts}

-- one piece more
pub cut_more : (n m : ℕ) (token text before behind : List ℕ) → n ≡ suc m → Some (before, behind) ≡ around token text → cut n token text ≡ before ∷ cut m token behind
cut_more n m token text before behind e h = ap (λ (k : ℕ). cut k token text) e ∙ ap (cut_around (cut m token) text) (sym h)

-- the last piece
pub cut_none : (n : ℕ) (token text : List ℕ) → None ≡ around token text → cut n token text ≡ text ∷ []
cut_none zero token text h = refl
cut_none (suc n) token text h = ap (cut_around (cut n token) text) (sym h)

-- What is made of the pieces of a text, and what is still to be made
pub record Making (room : ℕ) (pieces rest : List (List ℕ)) (items : List Value) (cost spare : ℕ) : Type 0 where
  pub values : map v.Str pieces ≡ items ++ map v.Str rest
  pub costs : cost_of pieces ≡ cost + cost_of rest
  pub spares : cost + length items + spare ≡ room

pub one_more : (room : ℕ) (pieces rest : List (List ℕ)) (piece : List ℕ) (items made : List Value) (cost paid spare left : ℕ) → Making room pieces (piece ∷ rest) items cost spare
    → made ≡ items ++ v.Str piece ∷ [] → paid ≡ cost + (length piece + 1) → left + (length piece + 2) ≡ spare → Making room pieces rest made paid left
one_more room pieces rest piece items made cost paid spare left m e f g = record {
  values = m.values ∙ (sym (append_assoc items (v.Str piece ∷ []) (map v.Str rest)) ∙ ap (λ (front : List Value). front ++ map v.Str rest) (sym e));
  costs = omega (arith, m.costs);
  spares = omega (arith, m.spares, ap length e, length-append items (v.Str piece ∷ []));
}

-- why they are not made
pub none_made : (room : ℕ) (pieces rest : List (List ℕ)) (piece : List ℕ) (items : List Value) (cost spare : ℕ) (stop : Stop) → Making room pieces (piece ∷ rest) items cost spare
    → StopsOne spare piece stop → StopsTexts room pieces stop
none_made room pieces rest piece items cost spare NoRoom m h =
    let f : List ℕ → Value = v.Str in
    omega (arith, m.costs, m.spares, ap length m.values, length-append items (map f (piece ∷ rest)), length-map pieces f, length-map rest f)
none_made room pieces rest piece items cost spare NoMemory m h = tt

-- the texts that are made of all pieces
pub all_made : (room : ℕ) (pieces : List (List ℕ)) (piece : List ℕ) (items : List Value) (cost spare : ℕ) (result : Result Texts Stop) → Making room pieces (piece ∷ []) items cost spare
    → IfOk result (λ texts. texts.items ≡ items ++ v.Str piece ∷ []) → IfOk result (λ texts. texts.cost ≡ cost + (length piece + 1)) → IfErr result (λ stop. StopsOne spare piece stop)
    → MadeTexts room pieces result
all_made room pieces piece items cost spare (Ok texts) m e f g = (e ∙ sym m.values, omega (arith, m.costs))
all_made room pieces piece items cost spare (Err stop) m e f g = none_made room pieces [] piece items cost spare stop m g
