-- Laws of the pieces of a text.
use Rattle.std.proofs.Common.{◌≡◌, ℕ, zero, suc, ◌+◌, ◌≤◌, List, [], ◌∷◌, ◌++◌, length, take, drop, refl, ap, sym, ◌∙◌, subst, arith, append_assoc, length-append}
use Rattle.std.proofs.lemmas.List.{append-nil, drop-drop, take-append-drop}
use Rattle.std.specs.Prelude.{Option, Some, None}
use Rattle.std.specs.Option.{option_map}
use Rattle.pl_units.specs.Places.{first_place}
use Rattle.api_text.specs.Joining.{joined, more_joined}
use Rattle.api_text.specs.Pieces.{around, cut, cut_around, replaced_around, replaced_times}
use Rattle.api_text.proofs.Places.{first_place_stands, first_place_within}

-- what stands before and behind an occurrence
split_at : (token text : List ℕ) (place : ℕ) → Some place ≡ first_place text token 0 → take place text ++ (token ++ drop (place + length token) text) ≡ text
split_at token text place h =
    let here : take (length token) (drop place text) ≡ token = first_place_stands text token 0 place h in
    let behind : token ++ drop (place + length token) text ≡ drop place text =
    ap (λ (t : List ℕ). t ++ drop (place + length token) text) (sym here)
    ∙ (ap (λ (t : List ℕ). take (length token) (drop place text) ++ t) (sym (drop-drop (length token) place text))
    ∙ take-append-drop (length token) (drop place text)) in
    ap (λ (t : List ℕ). take place text ++ t) behind ∙ take-append-drop place text

parts_found : (token text : List ℕ) (parts : List ℕ × List ℕ) (found : Option ℕ) → found ≡ first_place text token 0
    → option_map (λ place. (take place text, drop (place + length token) text)) found ≡ Some parts → parts.0 ++ (token ++ parts.1) ≡ text
parts_found token text parts None f h = cc
parts_found token text parts (Some place) f h =
    let same : (take place text, drop (place + length token) text) ≡ parts = cc in
    subst (λ (p : List ℕ × List ℕ). p.0 ++ (token ++ p.1) ≡ text) same (split_at token text place f)

parts_are : (token text : List ℕ) (parts : List ℕ × List ℕ) → around token text ≡ Some parts → parts.0 ++ (token ++ parts.1) ≡ text
parts_are token text parts h = parts_found token text parts (first_place text token 0) refl h

-- behind a text that stands between
more_of : (between text : List ℕ) (next : List ℕ → List (List ℕ)) (found : Option (List ℕ × List ℕ)) → more_joined between (cut_around next text found) ≡ between ++ joined between (cut_around next text found)
more_of between text next None = append_assoc between text []
more_of between text next (Some parts) = append_assoc between parts.0 (more_joined between (next parts.1))

more_is : (n : ℕ) (between token text : List ℕ) → more_joined between (cut n token text) ≡ between ++ joined between (cut n token text)
more_is zero between token text = append_assoc between text []
more_is (suc n) between token text = more_of between text (cut n token) (around token text)

join_parts : (n : ℕ) (token text : List ℕ) (found : Option (List ℕ × List ℕ)) → around token text ≡ found → ((rest : List ℕ) → joined token (cut n token rest) ≡ rest)
    → joined token (cut_around (cut n token) text found) ≡ text
join_parts n token text None e h = append-nil text
join_parts n token text (Some parts) e h =
    ap (λ (t : List ℕ). parts.0 ++ t) (more_is n token token parts.1 ∙ ap (λ (t : List ℕ). token ++ t) (h parts.1)) ∙ parts_are token text parts e

pub pieces_join : (n : ℕ) (token text : List ℕ) → joined token (cut n token text) ≡ text
pieces_join zero token text = append-nil text
pieces_join (suc n) token text = join_parts n token text (around token text) refl (pieces_join n token)

replace_parts : (n : ℕ) (target by text : List ℕ) (found : Option (List ℕ × List ℕ)) → ((rest : List ℕ) → replaced_times n target by rest ≡ joined by (cut n target rest))
    → replaced_around (replaced_times n target by) by text found ≡ joined by (cut_around (cut n target) text found)
replace_parts n target by text None h = sym (append-nil text)
replace_parts n target by text (Some parts) h =
    append_assoc parts.0 by (replaced_times n target by parts.1)
    ∙ ap (λ (t : List ℕ). parts.0 ++ t) (ap (λ (t : List ℕ). by ++ t) (h parts.1) ∙ sym (more_is n by target parts.1))

pub replaced_joins : (n : ℕ) (target by text : List ℕ) → replaced_times n target by text ≡ joined by (cut n target text)
replaced_joins zero target by text = sym (append-nil text)
replaced_joins (suc n) target by text = replace_parts n target by text (around target text) (replaced_joins n target by)

-- no token that is not empty stands in the empty text
no_place : (unit : ℕ) (token : List ℕ) (found : Option ℕ) → found ≡ first_place [] (unit ∷ token) 0
    → option_map {T = ℕ} {U = List ℕ × List ℕ} (λ place. (take place [], drop (place + length (unit ∷ token)) [])) found ≡ None
no_place unit token None f = refl
no_place unit token (Some place) f = absurd (omega (arith, first_place_within [] (unit ∷ token) 0 place f))

around_none : (unit : ℕ) (token : List ℕ) → around (unit ∷ token) [] ≡ None
around_none unit token = no_place unit token (first_place [] (unit ∷ token) 0) refl

cut_none_of : (n : ℕ) (unit : ℕ) (token : List ℕ) → cut n (unit ∷ token) [] ≡ [] ∷ []
cut_none_of zero unit token = refl
cut_none_of (suc n) unit token = ap (cut_around (cut n (unit ∷ token)) []) (around_none unit token)

cut_empty : (n : ℕ) (unit : ℕ) (token text : List ℕ) → length text ≤ 0 → cut n (unit ∷ token) text ≡ text ∷ []
cut_empty n unit token [] h = cut_none_of n unit token
cut_empty n unit token (x ∷ text) h = absurd (omega arith)

alike_parts : (n m unit : ℕ) (token text : List ℕ) (found : Option (List ℕ × List ℕ)) → around (unit ∷ token) text ≡ found → length text ≤ suc n → length text ≤ suc m
    → ((rest : List ℕ) → length rest ≤ n → length rest ≤ m → cut n (unit ∷ token) rest ≡ cut m (unit ∷ token) rest)
    → cut_around (cut n (unit ∷ token)) text found ≡ cut_around (cut m (unit ∷ token)) text found
alike_parts n m unit token text None e h k same = refl
alike_parts n m unit token text (Some parts) e h k same =
    let long : length parts.0 + (suc (length token) + length parts.1) ≡ length text =
    omega (arith, ap length (parts_are (unit ∷ token) text parts e), length-append parts.0 ((unit ∷ token) ++ parts.1), length-append (unit ∷ token) parts.1) in
    ap (λ (rest : List (List ℕ)). parts.0 ∷ rest) (same parts.1 (omega arith) (omega arith))

alike : (n m unit : ℕ) (token text : List ℕ) → length text ≤ n → length text ≤ m → cut n (unit ∷ token) text ≡ cut m (unit ∷ token) text
alike zero m unit token text h k = sym (cut_empty m unit token text h)
alike (suc n) zero unit token text h k = cut_empty (suc n) unit token text k
alike (suc n) (suc m) unit token text h k = alike_parts n m unit token text (around (unit ∷ token) text) refl h k (alike n m unit token)

pub cuts_end : (more unit : ℕ) (token text : List ℕ) → cut (length text + more) (unit ∷ token) text ≡ cut (length text) (unit ∷ token) text
cuts_end more unit token text = alike (length text + more) (length text) unit token text (omega arith) (omega arith)
