use Rattle.std.proofs.Common.{◌≡◌, ◌∷◌, true, false, Some, string_bytes, string_cmp, subst, sym, ap, ◌∙◌}
use Rattle.std.specs.List.Sorted.{IsStrictlySortedBy}
use Rattle.std.specs.Map.{keys_of}
use Rattle.serde_json.specs.View.{view, members_view}
use Rattle.serde_json.proofs.Views.{Entry}
use Rattle.job_file.specs.Mappings.{is_bad, least, names_where}
use Rattle.job_file.proofs.Least.{least_here, least_on, sorted_on}
use Rattle.job_file.proofs.mapping.least_bad.Goals as goal

pub returns-then-is_bad : goal.returns-then-is_bad
returns-then-is_bad c =
    let l = c.loop-name in
    let e : Entry = (c.in-Some.name.now, c.in-Some.value.now) in
    let left = c.next.new.self in
    let steps : l.name-iterator ≡ e ∷ left = c.in-Some.ensures.steps in
    let sorted = subst (λ es. IsStrictlySortedBy string_cmp (keys_of es)) steps l.invariant.0 in
    let passes : is_bad (string_bytes e.0) (view e.1) ≡ true = ap (λ name. is_bad name (view e.1)) (sym c.as_str.ensures.value) ∙ sym c.is_bad.ensures ∙ c.if-is_bad.true in
    ap Some c.as_str-then-is_bad.ensures.value ∙ sym (l.invariant.1 ∙ ap (λ es. least (names_where is_bad (members_view es))) steps ∙ least_here is_bad e left sorted passes)

pub loop-name-preserved : goal.loop-name-preserved
loop-name-preserved c =
    let l = c.loop-name in
    let e : Entry = (c.in-Some.name.now, c.in-Some.value.now) in
    let left = c.next.new.self in
    let steps : l.name-iterator ≡ e ∷ left = c.in-Some.ensures.steps in
    let sorted = subst (λ es. IsStrictlySortedBy string_cmp (keys_of es)) steps l.invariant.0 in
    let fails : is_bad (string_bytes e.0) (view e.1) ≡ false = ap (λ name. is_bad name (view e.1)) (sym c.as_str.ensures.value) ∙ sym c.is_bad.ensures ∙ c.if-is_bad.false in
    (sorted_on e left sorted, l.invariant.1 ∙ ap (λ es. least (names_where is_bad (members_view es))) steps ∙ least_on is_bad e left fails)
