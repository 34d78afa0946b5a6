use Rattle.std.proofs.Common.{◌≡◌, ◌∷◌, ℕ, List, Bool, true, false, not, Some, string_bytes, string_cmp, subst, sym, ap, ◌∙◌}
use Rattle.std.specs.List.Sorted.{IsStrictlySortedBy}
use Rattle.std.specs.Map.{keys_of}
use Rattle.serde_json.specs.Data.{Data}
use Rattle.serde_json.specs.View.{view, members_view}
use Rattle.serde_json.proofs.Views.{Entry}
use Rattle.function_score.specs.Functions.{is_key}
use Rattle.job_file.specs.Mappings.{least, names_where}
use Rattle.function_score.proofs.Least.{least_here, least_on, sorted_on}
use Rattle.function_score.proofs.reading.unknown_key.Goals as goal

pub returns-then-not-is_key : goal.returns-then-not-is_key
returns-then-not-is_key c =
    let l = c.loop-name in
    let e : Entry = (c.in-Some.name.now, c.in-Some._value.now) in
    let left = c.next.new.self in
    let steps : l.name-iterator ≡ e ∷ left = c.in-Some.ensures.steps in
    let sorted = subst (λ es. IsStrictlySortedBy string_cmp (keys_of es)) steps l.invariant.sorted in
    let unknown : List ℕ → Data → Bool = λ name d. not (is_key name) in
    let passes : unknown (string_bytes e.0) (view e.1) ≡ true = ap (λ name. not (is_key name)) (sym c.as_str.ensures.value) ∙ ap not (sym c.is_key.ensures) ∙ ap not c.if-not-is_key.true in
    ap Some c.as_str-then-not-is_key.ensures.value ∙ sym (l.invariant.rest ∙ ap (λ es. least (names_where unknown (members_view es))) steps ∙ least_here unknown e left sorted passes)

pub loop-name-preserved : goal.loop-name-preserved
loop-name-preserved c =
    let l = c.loop-name in
    let e : Entry = (c.in-Some.name.now, c.in-Some._value.now) in
    let left = c.next.new.self in
    let steps : l.name-iterator ≡ e ∷ left = c.in-Some.ensures.steps in
    let sorted = subst (λ es. IsStrictlySortedBy string_cmp (keys_of es)) steps l.invariant.sorted in
    let unknown : List ℕ → Data → Bool = λ name d. not (is_key name) in
    let fails : unknown (string_bytes e.0) (view e.1) ≡ false = ap (λ name. not (is_key name)) (sym c.as_str.ensures.value) ∙ ap not (sym c.is_key.ensures) ∙ ap not c.if-not-is_key.false in
    record { sorted = sorted_on e left sorted; rest = l.invariant.rest ∙ ap (λ es. least (names_where unknown (members_view es))) steps ∙ least_on unknown e left fails }
