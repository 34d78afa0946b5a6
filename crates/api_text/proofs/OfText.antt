-- The text of a text is the text, without a walk.
use Rattle.std.proofs.Common.{◌≡◌, ℕ, ℤ, List, Option, Some, None, refl, ap, sym, ◌∙◌, slice_get}
use Rattle.object_values.specs.declared.object.Object.{Object}
use Rattle.object_values.specs.declared.value.Value.{Value}
use Rattle.object_values.specs.declared.value.Value.TheVariants as v
use Rattle.object_heap.specs.Parts.{units_of}
use Rattle.value_walks.specs.declared.TheConstants.{VISITS}
use Rattle.value_walks.specs.Texts.{Wrote, text_of}
use Rattle.api_text.specs.declared.outcome.Outcome.TheVariants.{Extends}
use Rattle.member_arguments.specs.Arguments.{object_at, text_at, text_in}
use Rattle.api_text.specs.Arguments.{with_two}
use Rattle.api_text.specs.Builders.{append, appended, inserted, put_at}
use Rattle.api_text.specs.Outcomes.{followed_by}

text_is : (objects : List Object) (text : List ℕ) → text_of objects (v.Str text) VISITS ≡ Wrote text 999999
unfolding text_of
text_is objects text = refl

pub inserted_is : (objects : List Object) (builder : ℕ) (at : ℤ) (text : List ℕ) → inserted objects builder at (v.Str text) ≡ put_at builder (units_of objects builder) at text
inserted_is objects builder at text = ap (λ walk. followed_by walk (put_at builder (units_of objects builder) at)) (text_is objects text)

text_found : (found : Option Value) (text : List ℕ) → Some text ≡ text_in found → found ≡ Some (v.Str text)
text_found None text h = cc
text_found (Some (v.Str other)) text h = cc
text_found (Some value) text h = cc

pub append_is : (objects : List Object) (arguments : List Value) (builder : ℕ) (text : List ℕ) → Some builder ≡ object_at arguments 0 → Some text ≡ text_at arguments 1
    → append objects arguments ≡ Extends builder text
append_is objects arguments builder text b t =
    ap (λ (o : Option ℕ). with_two (appended objects) o (slice_get arguments 1)) (sym b)
    ∙ (ap (with_two (appended objects) (Some builder)) (text_found (slice_get arguments 1) text t)
    ∙ ap (λ walk. followed_by walk (Extends builder)) (text_is objects text))
