-- Searches for a value that is no object.
use Rattle.std.proofs.Common.{◌≡◌, ℕ, ◌+◌, ◌∙◌, Bool, true, false, List, [], ◌∷◌, if◌then◌else◌, refl, ap}
use Rattle.object_values.specs.declared.object.Object.{Object}
use Rattle.object_values.specs.declared.value.Value.{Value}
use Rattle.object_values.specs.declared.value.Value.TheVariants as v
use Rattle.object_values.specs.Values.{same_value, is_simple}
use Rattle.value_walks.specs.declared.equality.Walked.TheVariants.{On}
use Rattle.value_walks.specs.Equality.{equal_of}
use Rattle.container_outcomes.specs.declared.comparing.Compared.{Compared}
use Rattle.container_outcomes.specs.declared.comparing.Compared.TheVariants.{Same, Other}
use Rattle.container_outcomes.specs.declared.comparing.Found.{Found}
use Rattle.container_outcomes.specs.declared.comparing.Found.TheVariants.{At}
use Rattle.container_outcomes.specs.Comparing.{comparison, compared_by, found_by}
use Rattle.api_list.specs.Searching.{first_from, first_same_from}

abbrev told : (same : Bool) → Compared
told true = Same
told false = Other

found_told : (at : ℕ) (same : Bool) (rest : Found) → found_by at (told same) rest ≡ (if same then At at else rest)
found_told at true rest = refl
found_told at false rest = refl

compared_told : (same : Bool) (visits : ℕ) → compared_by (On same visits) ≡ told same
compared_told true visits = refl
compared_told false visits = refl

-- one visit tells whether a value that is no object is another
plain_comparison : (objects : List Object) (value item : Value) → is_simple value ≡ true → comparison objects value item ≡ told (same_value value item)
unfolding comparison equal_of
plain_comparison objects v.Null item h = compared_told (same_value v.Null item) 999999
plain_comparison objects (v.Bool a) item h = compared_told (same_value (v.Bool a) item) 999999
plain_comparison objects (v.Byte a) item h = compared_told (same_value (v.Byte a) item) 999999
plain_comparison objects (v.Short a) item h = compared_told (same_value (v.Short a) item) 999999
plain_comparison objects (v.Char a) item h = compared_told (same_value (v.Char a) item) 999999
plain_comparison objects (v.Int a) item h = compared_told (same_value (v.Int a) item) 999999
plain_comparison objects (v.Long a) item h = compared_told (same_value (v.Long a) item) 999999
plain_comparison objects (v.Str a) item h = compared_told (same_value (v.Str a) item) 999999
plain_comparison objects (v.Ref id) item h = absurd (cc)

-- so the search by walks is the search by kind and content
pub first_is_same : (objects : List Object) (value : Value) (at : ℕ) (items : List Value) → is_simple value ≡ true → first_from objects value at items ≡ first_same_from value at items
first_is_same objects value at [] h = refl
first_is_same objects value at (item ∷ items) h =
    ap (λ (is : Compared). found_by at is (first_from objects value (at + 1) items)) (plain_comparison objects value item h)
    ∙ (found_told at (same_value value item) (first_from objects value (at + 1) items)
    ∙ ap (λ (rest : Found). if same_value value item then At at else rest) (first_is_same objects value (at + 1) items h))
