-- Names that are places of lists.
use Rattle.std.proofs.Common.{◌≡◌, ℕ, ◌<◌, ◌≤◌, Bool, true, false, cond, eqb, List, [], ◌∷◌, Some, Err, None, length, refl, ap, ◌∙◌, inl, inr, arith, rules, w32}
use Rattle.std.specs.Prelude.{pos}
use Rattle.std.specs.Char.{is_ascii_digit}
use Rattle.std.specs.List.{list_all}
use Rattle.std.specs.Str.Parse.{digits_value, ParsesSigned}
use Rattle.std.proofs.lemmas.Bool.{cases_lt, eqb-true, le-ltb, false≢true}
use Rattle.std.proofs.lemmas.Str.Parse.{IsNumeralModel, numerals_by_value, parse_signed_digits}
use Rattle.def_resolve.specs.declared.access.Place.TheVariants.{At, Beyond}
use Rattle.def_resolve.specs.Accesses.{is_end, is_index, place_at, place_of}

own : IsNumeralModel (λ ds. list_all is_ascii_digit ds ≡ true) (digits_value 10)
own = numerals_by_value _ (search rules)

digits_at : (b : ℕ) (bs : List ℕ) (t : Bool) → eqb b 48 ≡ t → cond t (is_end bs) (list_all is_ascii_digit (b ∷ bs)) ≡ true → list_all is_ascii_digit (b ∷ bs) ≡ true
digits_at b [] true e h = ap (λ d. list_all is_ascii_digit (d ∷ [])) (eqb-true b 48 e)
digits_at b (d ∷ ds) true e h = absurd (false≢true h)
digits_at b bs false e h = h

digits : (name : List ℕ) → is_index name ≡ true → (list_all is_ascii_digit name ≡ true) × (0 < length name)
digits [] h = absurd (false≢true h)
digits (b ∷ bs) h = (digits_at b bs (eqb b 48) refl h, omega arith)

far : (value : ℕ) → 2147483648 ≤ value → place_at value ≡ Beyond
far value h = ap (λ t. cond t (At (pos value)) Beyond) (le-ltb value 2147483648 h)

-- what is no int is past every place
pub beyond : {E : Type 0} (name : List ℕ) (error : E) → is_index name ≡ true → ParsesSigned w32 10 name (Err error) → place_of name ≡ Some Beyond
unfolding place_of
beyond name error h p =
    let d = digits name h in
    let no = parse_signed_digits own w32 name (Err error) p d.0 in
    ap (λ t. cond t (Some (place_at (digits_value 10 name))) None) h
    ∙ ap Some (far (digits_value 10 name) (elim (cases_lt (digits_value 10 name) 2147483648) [ inl l ↦ absurd (no (d.1, l)) | inr g ↦ g ]))
